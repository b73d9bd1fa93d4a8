-- What a feed is as its parts stand for it.
use Rattle.std.specs.Prelude.{◌≡◌, ◌≤◌, ℕ, Bool, true, false, List, [], ◌∷◌, Option, None, Some, length}
use Rattle.model_numbers.specs.Numbers.{line_limit}
use Rattle.script_lang.specs.Parts.{parts, is_byte}

-- the bytes of a line, or none where it is too long
abbrev pub bytes_unless : Bool → List ℕ → Option (List ℕ)
bytes_unless true bytes = None
bytes_unless false bytes = Some bytes

-- kept bytes are those of one line, and not too many
abbrev pub IsOneLine : Option (List ℕ) → Type 0
IsOneLine None = Unit {0}
IsOneLine (Some bytes) = (parts (is_byte 10) bytes ≡ bytes ∷ []) × (length bytes ≤ line_limit)

-- once the end came, a line that isn't whole has no bytes
abbrev pub IsEmptyAtEnd : Bool → Bool → Option (List ℕ) → Type 0
IsEmptyAtEnd ended whole kept = ended ≡ true → whole ≡ false → kept ≡ Some []
