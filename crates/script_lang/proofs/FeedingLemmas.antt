-- What is ahead of a feed stays as it is from one call to the next.
use Rattle.std.proofs.Common.{◌≡◌, ℕ, ◌+◌, ◌<◌, ◌≤◌, ◌⊎◌, inl, inr, Bool, true, false, List, [], ◌∷◌, ◌++◌, Option, None, Some, length, take, drop, nat_eq, nat_le, refl, sym, ◌∙◌, ap, subst, arith, append_assoc, length-append}
use Rattle.std.proofs.lemmas.List.{append-nil}
use Rattle.std.proofs.Math.Seq.{take-append_seam, drop-append_seam, drop-length}
use Rattle.std.proofs.lemmas.Bool.{le-leb}
use Rattle.std.proofs.lemmas.Bool.Decides.{leb_tells}
use Rattle.std.specs.Prelude.{if◌then◌else◌}
use Rattle.model_numbers.specs.Numbers.{line_limit}
use Rattle.script_lang.specs.Parts.{with_byte, parts, is_byte, without_empty_last, lines}
use Rattle.script_lang.specs.Feeding.{kept_line, FedLine, Feed, first_of, behind_first, is_any, first_part, has_line_feed, taken, grown, has_bytes, after_feeding, after_end, at_next, line_at, numbered, going_on, ahead, fresh_feed, LinesCome, over, ends, feeds, hands}
use Rattle.script_lang.specs.FeedState.{IsOneLine, IsEmptyAtEnd}
use Rattle.script_lang.proofs.PartsLemmas.{parts-some, parts-append, lines-first}

-- bytes of one line: they have no line feed
abbrev pub OnePart : List ℕ → Type 0
OnePart bytes = parts (is_byte 10) bytes ≡ bytes ∷ []

-- bytes without a line feed lengthen the first part of the text behind them
pub parts-longer : (p text q : List ℕ) (qs : List (List ℕ)) → OnePart p → parts (is_byte 10) text ≡ q ∷ qs → parts (is_byte 10) (p ++ text) ≡ (p ++ q) ∷ qs
parts-longer p text q qs one h = parts-append (is_byte 10) p text [] p q qs one h

-- two texts without a line feed are one together
pub OnePart-append : (p q : List ℕ) → OnePart p → OnePart q → OnePart (p ++ q)
OnePart-append p q one other = parts-longer p q q [] one other

-- a line feed ends the first part
pub parts-ended : (p text : List ℕ) → OnePart p → parts (is_byte 10) (p ++ 10 ∷ text) ≡ p ∷ parts (is_byte 10) text
parts-ended p text one =
    parts-longer p (10 ∷ text) [] (parts (is_byte 10) text) one refl
    ∙ ap (λ (q : List ℕ). q ∷ parts (is_byte 10) text) (append-nil p)

-- a piece has no line feed, or is its first part, a line feed, and what is left
pub piece_cases : (piece : List ℕ) → OnePart piece ⊎ ((p : List ℕ) × (left : List ℕ) × (piece ≡ p ++ 10 ∷ left) × OnePart p)
piece_cases [] = inl refl
piece_cases (b ∷ bs) = with_first (nat_eq b 10) refl (piece_cases bs)
  where
    with_first : (is : Bool) → nat_eq b 10 ≡ is → (OnePart bs ⊎ ((p : List ℕ) × (left : List ℕ) × (bs ≡ p ++ 10 ∷ left) × OnePart p)) → OnePart (b ∷ bs) ⊎ ((p : List ℕ) × (left : List ℕ) × (b ∷ bs ≡ p ++ 10 ∷ left) × OnePart p)
    with_first true e more = inr ([], bs, ap (λ (c : ℕ). c ∷ bs) (grind arith), refl)
    with_first false e (inl one) = inl (ap (λ (is : Bool). with_byte is b (parts (is_byte 10) bs)) e ∙ ap (with_byte false b) one)
    with_first false e (inr (p, left, is, one)) = inr (
      b ∷ p,
      left,
      ap (λ (cs : List ℕ). b ∷ cs) is,
      ap (λ (is : Bool). with_byte is b (parts (is_byte 10) p)) e ∙ ap (with_byte false b) one,
    )

kept_line-short : (line : List ℕ) → length line ≤ line_limit → kept_line line ≡ Some line
kept_line-short line h = ap (λ (short : Bool). if short then Some line else None) (le-leb (length line) line_limit h)

kept_line-long : (line : List ℕ) → line_limit < length line → kept_line line ≡ None
kept_line-long line h = by_test (leb_tells (length line) line_limit)
  where
    by_test : (((nat_le (length line) line_limit ≡ true) × (length line ≤ line_limit)) ⊎ ((nat_le (length line) line_limit ≡ false) × (line_limit < length line))) → kept_line line ≡ None
    by_test (inl t) = absurd (omega (arith, h, t.1))
    by_test (inr t) = ap (λ (short : Bool). if short then Some line else None) t.0

-- a line is short, or long
line_cases : (line : List ℕ) → ((length line ≤ line_limit) × (kept_line line ≡ Some line)) ⊎ ((line_limit < length line) × (kept_line line ≡ None))
line_cases line = by_test (leb_tells (length line) line_limit)
  where
    by_test : (((nat_le (length line) line_limit ≡ true) × (length line ≤ line_limit)) ⊎ ((nat_le (length line) line_limit ≡ false) × (line_limit < length line))) → ((length line ≤ line_limit) × (kept_line line ≡ Some line)) ⊎ ((line_limit < length line) × (kept_line line ≡ None))
    by_test (inl t) = inl (t.1, kept_line-short line t.1)
    by_test (inr t) = inr (t.1, kept_line-long line t.1)

-- what is kept of a line stays one line as it grows
pub IsOneLine-grown : (kept : Option (List ℕ)) (p : List ℕ) → IsOneLine kept → OnePart p → IsOneLine (grown kept p)
IsOneLine-grown None p one other = tt
IsOneLine-grown (Some bytes) p one other = by_length (line_cases (bytes ++ p))
  where
    by_length : (((length (bytes ++ p) ≤ line_limit) × (kept_line (bytes ++ p) ≡ Some (bytes ++ p))) ⊎ ((line_limit < length (bytes ++ p)) × (kept_line (bytes ++ p) ≡ None))) → IsOneLine (kept_line (bytes ++ p))
    by_length (inl t) = let P : Option (List ℕ) → Type 0 = IsOneLine in subst P (sym t.1) (OnePart-append bytes p one.0 other, t.0)
    by_length (inr t) = let P : Option (List ℕ) → Type 0 = IsOneLine in subst P (sym t.1) tt

-- a line that is too long, whatever the text behind it
going_on-long : (n : ℕ) (line text : List ℕ) → OnePart line → line_limit < length line → numbered n (lines (line ++ text)) ≡ going_on n None text
going_on-long n line text one long =
    let some = parts-some (is_byte 10) text in
    let q : List ℕ = some.0 in
    let qs : List (List ℕ) = some.1 in
    let whole : line_limit < length (line ++ q) = omega (arith, long, length-append line q) in
    ap (λ (ps : List (List ℕ)). numbered n (without_empty_last ps)) (parts-longer line text q qs one some.2)
    ∙ first_long (line ++ q) qs whole
    ∙ sym (ap (λ (ps : List (List ℕ)). record { number = n; kept = None } ∷ numbered (n + 1) (without_empty_last (behind_first ps))) some.2)
  where
    first_long : (first : List ℕ) (rest : List (List ℕ)) → line_limit < length first → numbered n (without_empty_last (first ∷ rest)) ≡ record { number = n; kept = None } ∷ numbered (n + 1) (without_empty_last rest)
    first_long [] rest h = absurd (omega (arith, h))
    first_long (b ∷ bs) [] h = ap (λ (kept : Option (List ℕ)). record { number = n; kept = kept } ∷ []) (kept_line-long (b ∷ bs) h)
    first_long (b ∷ bs) (r ∷ rest) h = ap (λ (kept : Option (List ℕ)). record { number = n; kept = kept } ∷ numbered (n + 1) (without_empty_last (r ∷ rest))) (kept_line-long (b ∷ bs) h)

-- the bytes in front of a text may be kept already
going_on-grown : (n : ℕ) (kept : Option (List ℕ)) (p text : List ℕ) → IsOneLine kept → OnePart p → going_on n kept (p ++ text) ≡ going_on n (grown kept p) text
going_on-grown n None p text one other =
    let some = parts-some (is_byte 10) text in
    let follow : List (List ℕ) → List FedLine = λ ps. record { number = n; kept = None } ∷ numbered (n + 1) (without_empty_last (behind_first ps)) in
    ap follow (parts-longer p text some.0 some.1 other some.2) ∙ sym (ap follow some.2)
going_on-grown n (Some bytes) p text one other =
    ap (λ (all : List ℕ). numbered n (lines all)) (sym (append_assoc bytes p text)) ∙ by_length (line_cases (bytes ++ p))
  where
    by_length : (((length (bytes ++ p) ≤ line_limit) × (kept_line (bytes ++ p) ≡ Some (bytes ++ p))) ⊎ ((line_limit < length (bytes ++ p)) × (kept_line (bytes ++ p) ≡ None))) → numbered n (lines ((bytes ++ p) ++ text)) ≡ going_on n (kept_line (bytes ++ p)) text
    by_length (inl t) = sym (ap (λ (kept : Option (List ℕ)). going_on n kept text) t.1)
    by_length (inr t) =
        going_on-long n (bytes ++ p) text (OnePart-append bytes p one.0 other) t.0
        ∙ sym (ap (λ (kept : Option (List ℕ)). going_on n kept text) t.1)

-- a line feed makes the line whole
going_on-ended : (n : ℕ) (kept : Option (List ℕ)) (text : List ℕ) → IsOneLine kept → going_on n kept (10 ∷ text) ≡ record { number = n; kept = kept } ∷ numbered (n + 1) (lines text)
going_on-ended n None text one = refl
going_on-ended n (Some bytes) text one =
    ap (numbered n) (lines-first (bytes ++ 10 ∷ text) bytes text (parts-ended bytes text one.0))
    ∙ ap (λ (kept : Option (List ℕ)). record { number = n; kept = kept } ∷ numbered (n + 1) (lines text)) (kept_line-short bytes one.1)

-- there is a part
is_any-parts : (text : List ℕ) → is_any (parts (is_byte 10) text) ≡ true
is_any-parts text = let some = parts-some (is_byte 10) text in ap is_any some.2

-- a piece without a line feed is its first part, and taken whole
pub first_part-whole : (piece : List ℕ) → OnePart piece → (first_part piece ≡ piece) × (has_line_feed piece ≡ false) × (taken piece ≡ piece)
first_part-whole piece one =
    (ap first_of one, ap (λ (ps : List (List ℕ)). is_any (behind_first ps)) one, ap taken_of one ∙ append-nil piece)
  where
    taken_of : List (List ℕ) → List ℕ
    taken_of ps = first_of ps ++ (if is_any (behind_first ps) then 10 ∷ [] else [])

-- of a piece with a line feed, the first part and the line feed are taken
pub first_part-ended : (p left : List ℕ) → OnePart p → (first_part (p ++ 10 ∷ left) ≡ p) × (has_line_feed (p ++ 10 ∷ left) ≡ true) × (taken (p ++ 10 ∷ left) ≡ p ++ 10 ∷ [])
first_part-ended p left one =
    let first = parts-ended p left one in
    let any : has_line_feed (p ++ 10 ∷ left) ≡ true = ap (λ (ps : List (List ℕ)). is_any (behind_first ps)) first ∙ is_any-parts left in (
      ap first_of first,
      any,
      ap (λ (q : List ℕ). q ++ (if has_line_feed (p ++ 10 ∷ left) then 10 ∷ [] else [])) (ap first_of first)
          ∙ ap (λ (is : Bool). p ++ (if is then 10 ∷ [] else [])) any,
    )

-- what is taken of a piece stands in front of what is left of it, and is something where the piece is
pub record Takes (piece : List ℕ) : Type 0 where
  pub left : List ℕ
  pub is : piece ≡ taken piece ++ left
  pub some : 0 < length piece → 1 ≤ length (taken piece)

pub takes : (piece : List ℕ) → Takes piece
takes piece = by_case (piece_cases piece)
  where
    by_case : (OnePart piece ⊎ ((p : List ℕ) × (left : List ℕ) × (piece ≡ p ++ 10 ∷ left) × OnePart p)) → Takes piece
    by_case (inl one) =
        let whole = (first_part-whole piece one).2 in
        record {
          left = [];
          is = sym (append-nil (taken piece) ∙ whole);
          some = λ h. omega (arith, h, ap length whole);
        }
    by_case (inr (p, left, is, one)) =
        let some : taken piece ≡ p ++ 10 ∷ [] = ap taken is ∙ (first_part-ended p left one).2 in
        record {
          left = left;
          is = is ∙ sym (ap (λ (front : List ℕ). front ++ left) some ∙ append_assoc p (10 ∷ []) left);
          some = λ h. omega (arith, ap length some, length-append p (10 ∷ []));
        }

-- the taken bytes
pub take-taken : (piece : List ℕ) → take (length (taken piece)) piece ≡ taken piece
take-taken piece =
    let t = takes piece in
    ap (take (length (taken piece))) t.is ∙ take-append_seam (taken piece) t.left

pub length-taken-le : (piece : List ℕ) → length (taken piece) ≤ length piece
length-taken-le piece = let t = takes piece in omega (arith, ap length t.is, length-append (taken piece) t.left)

-- feeding a piece changes nothing of what is ahead
pub ahead-feed : (feed : Feed) (piece rest : List ℕ) → feed.whole ≡ false → IsOneLine feed.kept → ahead feed (piece ++ rest) ≡ ahead (after_feeding feed piece) (drop (length (taken piece)) piece ++ rest)
ahead-feed feed piece rest unfinished one =
    ap (λ (is : Bool). if is then line_at feed ∷ numbered (feed.number + 1) (lines (piece ++ rest)) else going_on feed.number feed.kept (piece ++ rest)) unfinished
    ∙ by_case (piece_cases piece)
  where
    state : Bool → List ℕ → List ℕ → List FedLine
    state is p text = if is then record { number = feed.number; kept = grown feed.kept p } ∷ numbered (feed.number + 1) (lines text) else going_on feed.number (grown feed.kept p) text

    by_case : (OnePart piece ⊎ ((p : List ℕ) × (left : List ℕ) × (piece ≡ p ++ 10 ∷ left) × OnePart p)) → going_on feed.number feed.kept (piece ++ rest) ≡ state (has_line_feed piece) (first_part piece) (drop (length (taken piece)) piece ++ rest)
    by_case (inl other) =
        let w = first_part-whole piece other in
        let none : drop (length (taken piece)) piece ≡ [] = ap (λ (t : List ℕ). drop (length t) piece) w.2 ∙ drop-length piece in
        going_on-grown feed.number feed.kept piece rest one other
        ∙ ap (λ (p : List ℕ). state false p rest) (sym w.0)
        ∙ ap (λ (is : Bool). state is (first_part piece) rest) (sym w.1)
        ∙ ap (λ (left : List ℕ). state (has_line_feed piece) (first_part piece) (left ++ rest)) (sym none)
    by_case (inr (p, left, is, other)) =
        let w = first_part-ended p left other in
        let behind : drop (length (taken (p ++ 10 ∷ left))) (p ++ 10 ∷ left) ≡ left =
        ap (λ (t : List ℕ). drop (length t) (p ++ 10 ∷ left)) w.2
        ∙ ap (drop (length (p ++ 10 ∷ []))) (sym (append_assoc p (10 ∷ []) left))
        ∙ drop-append_seam (p ++ 10 ∷ []) left in
        let P : List ℕ → Type 0 = λ piece. going_on feed.number feed.kept (piece ++ rest) ≡ state (has_line_feed piece) (first_part piece) (drop (length (taken piece)) piece ++ rest) in
        subst P (sym is)
        (ap (going_on feed.number feed.kept) (append_assoc p (10 ∷ left) rest)
        ∙ going_on-grown feed.number feed.kept p (10 ∷ left ++ rest) one other
        ∙ going_on-ended feed.number (grown feed.kept p) (left ++ rest) (IsOneLine-grown feed.kept p one other)
        ∙ ap (λ (p : List ℕ). state true p (left ++ rest)) (sym w.0)
        ∙ ap (λ (is : Bool). state is (first_part (p ++ 10 ∷ left)) (left ++ rest)) (sym w.1)
        ∙ ap (λ (more : List ℕ). state (has_line_feed (p ++ 10 ∷ left)) (first_part (p ++ 10 ∷ left)) (more ++ rest)) (sym behind))

-- the first part is one line
pub OnePart-first_part : (piece : List ℕ) → OnePart (first_part piece)
OnePart-first_part piece = by_case (piece_cases piece)
  where
    by_case : (OnePart piece ⊎ ((p : List ℕ) × (left : List ℕ) × (piece ≡ p ++ 10 ∷ left) × OnePart p)) → OnePart (first_part piece)
    by_case (inl one) = let P : List ℕ → Type 0 = OnePart in subst P (sym (first_part-whole piece one).0) one
    by_case (inr (p, left, is, one)) = let P : List ℕ → Type 0 = OnePart in subst P (sym (ap first_part is ∙ (first_part-ended p left one).0)) one

-- a text behind the first part says that a line feed is taken
pub first_part-left : (piece p left : List ℕ) → parts (is_byte 10) piece ≡ p ∷ parts (is_byte 10) left → (has_line_feed piece ≡ true) × (length (taken piece) ≡ length p + 1)
first_part-left piece p left h =
    let any : has_line_feed piece ≡ true = ap (λ (ps : List (List ℕ)). is_any (behind_first ps)) h ∙ is_any-parts left in
    let all : taken piece ≡ p ++ 10 ∷ [] = ap (λ (q : List ℕ). q ++ (if has_line_feed piece then 10 ∷ [] else [])) (ap first_of h) ∙ ap (λ (is : Bool). p ++ (if is then 10 ∷ [] else [])) any in
    (any, omega (arith, ap length all, length-append p (10 ∷ [])))

-- what holds of every feed
abbrev pub Stands : Feed → Type 0
Stands feed = IsOneLine feed.kept × IsEmptyAtEnd feed.ended feed.whole feed.kept

-- what is ahead of a feed whose line is whole, or isn't
ahead-if : (feed : Feed) (text : List ℕ) (is : Bool) → feed.whole ≡ is → ahead feed text ≡ (if is then line_at feed ∷ numbered (feed.number + 1) (lines text) else going_on feed.number feed.kept text)
ahead-if feed text is h = ap (λ (whole : Bool). if whole then line_at feed ∷ numbered (feed.number + 1) (lines text) else going_on feed.number feed.kept text) h

-- no bytes
no_bytes : (kept : Option (List ℕ)) → has_bytes kept ≡ false → kept ≡ Some []
no_bytes None h = absurd (let no : true ≡ false = h in cc)
no_bytes (Some []) h = refl
no_bytes (Some (b ∷ bs)) h = absurd (let no : true ≡ false = h in cc)

-- the end changes nothing of what is ahead
going_on-end : (n : ℕ) (kept : Option (List ℕ)) → IsOneLine kept → going_on n kept [] ≡ (if has_bytes kept then record { number = n; kept = kept } ∷ [] else going_on n kept [])
going_on-end n None one = refl
going_on-end n (Some []) one = refl
going_on-end n (Some (b ∷ bs)) one =
    ap (λ (text : List ℕ). numbered n (lines text)) (append-nil (b ∷ bs))
    ∙ ap (λ (ps : List (List ℕ)). numbered n (without_empty_last ps)) one.0
    ∙ ap (λ (kept : Option (List ℕ)). record { number = n; kept = kept } ∷ []) (kept_line-short (b ∷ bs) one.1)

-- the lines that come in a run are those that are ahead
pub come-ahead : (feed : Feed) (text : List ℕ) (ls : List FedLine) → Stands feed → LinesCome feed text ls → ls ≡ ahead feed text
come-ahead _ _ _ stands (over feed whole ended) =
    sym (ahead-if feed [] false whole ∙ ap (λ (kept : Option (List ℕ)). going_on feed.number kept []) (stands.1 ended whole))
come-ahead _ _ _ stands (ends feed ls whole ended more) =
    come-ahead (after_end feed) [] ls (stands.0, λ _ h. no_bytes feed.kept h) more
    ∙ sym (ahead-if feed [] false whole ∙ going_on-end feed.number feed.kept stands.0)
come-ahead _ _ _ stands (feeds feed piece rest ls whole ended more) =
    come-ahead (after_feeding feed piece) (drop (length (taken piece)) piece ++ rest) ls (
      IsOneLine-grown feed.kept (first_part piece) stands.0 (OnePart-first_part piece),
      λ is _. absurd (let no : true ≡ false = sym is ∙ ended in cc),
    ) more
    ∙ sym (ahead-feed feed piece rest whole stands.0)
come-ahead _ _ _ stands (hands feed text ls whole more) =
    ap (λ (rest : List FedLine). line_at feed ∷ rest) (come-ahead (at_next feed) text ls ((refl, omega arith), λ _ _. refl) more)
    ∙ sym (ahead-if feed text true whole)

-- at the start of a text its lines come
pub come-lines : (text : List ℕ) (ls : List FedLine) → LinesCome fresh_feed text ls → ls ≡ numbered 1 (lines text)
come-lines text ls come = come-ahead fresh_feed text ls ((refl, omega arith), λ _ _. refl) come
