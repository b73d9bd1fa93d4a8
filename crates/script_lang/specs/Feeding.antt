-- How lines come from the pieces of a text.
use Rattle.std.specs.Prelude.{◌≡◌, ℕ, ◌+◌, Bool, true, false, List, [], ◌∷◌, ◌++◌, Option, None, Some, length, drop, nat_le, if◌then◌else◌}
use Rattle.model_numbers.specs.Numbers.{line_limit}
use Rattle.script_lang.specs.Parts.{parts, is_byte, without_empty_last, lines}

-- a line of at most 4,096 bytes is kept, and of a longer one none
abbrev pub kept_line : List ℕ → Option (List ℕ)
kept_line line = if nat_le (length line) line_limit then Some line else None

-- a line that comes: its number, and its bytes, or none where it is too long
pub record FedLine : Type 0 where
  pub number : ℕ
  pub kept : Option (List ℕ)

-- a feed is at the line of this number, has its bytes so far, or none where they are too many already, and knows
-- whether the line is whole (its line feed came, or the end behind at least one byte) and whether the end came
pub record Feed : Type 0 where
  pub number : ℕ
  pub kept : Option (List ℕ)
  pub whole : Bool
  pub ended : Bool

-- a feed at the start of a text
abbrev pub fresh_feed : Feed
fresh_feed = record { number = 1; kept = Some []; whole = false; ended = false }

-- the first part
abbrev pub first_of : List (List ℕ) → List ℕ
first_of [] = []
first_of (p ∷ ps) = p

-- the parts behind the first one
abbrev pub behind_first : List (List ℕ) → List (List ℕ)
behind_first [] = []
behind_first (p ∷ ps) = ps

-- there is a part
abbrev pub is_any : List (List ℕ) → Bool
is_any [] = false
is_any (p ∷ ps) = true

-- the bytes of a piece in front of its first line feed, or all of them where it has none
abbrev pub first_part : List ℕ → List ℕ
first_part piece = first_of (parts (is_byte 10) piece)

-- a line feed stands in the piece
abbrev pub has_line_feed : List ℕ → Bool
has_line_feed piece = is_any (behind_first (parts (is_byte 10) piece))

-- what is taken of a piece: its first part, and the line feed behind that, if there is one
abbrev pub taken : List ℕ → List ℕ
taken piece = first_part piece ++ (if has_line_feed piece then 10 ∷ [] else [])

-- the bytes so far with more behind them: none once they are too many
abbrev pub grown : Option (List ℕ) → List ℕ → Option (List ℕ)
grown None more = None
grown (Some bytes) more = kept_line (bytes ++ more)

-- a line has at least one byte
abbrev pub has_bytes : Option (List ℕ) → Bool
has_bytes None = true
has_bytes (Some []) = false
has_bytes (Some (b ∷ bs)) = true

-- the feed that took what it takes of a piece
abbrev pub after_feeding : Feed → List ℕ → Feed
after_feeding feed piece = record {
  number = feed.number;
  kept = grown feed.kept (first_part piece);
  whole = has_line_feed piece;
  ended = feed.ended;
}

-- the feed after the end: its last line is whole where it has bytes
abbrev pub after_end : Feed → Feed
after_end feed = record { number = feed.number; kept = feed.kept; whole = has_bytes feed.kept; ended = true }

-- the feed at the start of the next line
abbrev pub at_next : Feed → Feed
at_next feed = record { number = feed.number + 1; kept = Some []; whole = false; ended = feed.ended }

-- the line that a feed is at
abbrev pub line_at : Feed → FedLine
line_at feed = record { number = feed.number; kept = feed.kept }

-- lines as they come, the first of which has this number
abbrev pub numbered : ℕ → List (List ℕ) → List FedLine
numbered n [] = []
numbered n (l ∷ ls) = record { number = n; kept = kept_line l } ∷ numbered (n + 1) ls

-- the lines that come where a text stands behind the bytes so far: those of both together. Where the bytes so far
-- are too many, the first line is too long, and the text's lines behind its first part follow
abbrev pub going_on : ℕ → Option (List ℕ) → List ℕ → List FedLine
going_on n (Some bytes) text = numbered n (lines (bytes ++ text))
going_on n None text = record { number = n; kept = None } ∷ numbered (n + 1) (without_empty_last (behind_first (parts (is_byte 10) text)))

-- the lines that come from a feed if this text follows, and then the end. At the start of a text they are its lines,
-- and no step changes what is ahead: so for every cutting into pieces the lines that come are those of the whole text
abbrev pub ahead : Feed → List ℕ → List FedLine
ahead feed text = if feed.whole then line_at feed ∷ numbered (feed.number + 1) (lines text) else going_on feed.number feed.kept text

-- a whole run: from a feed, by the calls that its conditions allow, the text that is still to come gives these lines
pub data LinesCome : Feed → List ℕ → List FedLine → Type 0 where
  -- the text ended, and no line is whole: the run is over
  over : (feed : Feed) → feed.whole ≡ false → feed.ended ≡ true → LinesCome feed [] []
  -- the text has come, and ends
  ends : (feed : Feed) (ls : List FedLine) → feed.whole ≡ false → feed.ended ≡ false → LinesCome (after_end feed) [] ls → LinesCome feed [] ls
  -- any first bytes of the text are the next piece, and what isn't taken of it is still to come
  feeds : (feed : Feed) (piece rest : List ℕ) (ls : List FedLine) → feed.whole ≡ false → feed.ended ≡ false → LinesCome (after_feeding feed piece) (drop (length (taken piece)) piece ++ rest) ls → LinesCome feed (piece ++ rest) ls
  -- a whole line is handed out
  hands : (feed : Feed) (text : List ℕ) (ls : List FedLine) → feed.whole ≡ true → LinesCome (at_next feed) text ls → LinesCome feed text (line_at feed ∷ ls)
