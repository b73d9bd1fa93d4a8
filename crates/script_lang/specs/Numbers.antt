-- Words that are numbers. A word is a number where it is the number's decimal text: so it has no leading zero, no `+`,
-- and `-0` is none.
use Rattle.std.specs.Prelude.{ℕ, ◌+◌, ◌-◌, ◌*◌, ◌&&◌, ℤ, pos, List, [], ◌∷◌, Option, None, Some, decimal, nat_eq, nat_le, if◌then◌else◌}
use Rattle.std.specs.Fmt.{signed_decimal}
use Rattle.class_layout.specs.declared.kind.Kind.TheVariants.{Long}
use Rattle.class_layout.specs.Kinds.{in_range}
use Rattle.class_layout.specs.Names.{same_name}
use lib.IntN.{neg_ℤ}

-- a number with the digits behind it
abbrev pub number_with : ℕ → List ℕ → ℕ
number_with n [] = n
number_with n (b ∷ bs) = number_with (n * 10 + (b - 48)) bs

-- the number that a word's bytes write, if they are digits
abbrev pub digits_number : List ℕ → ℕ
digits_number word = number_with 0 word

-- a number of at most this size
abbrev pub number_up_to : ℕ → List ℕ → Option ℕ
number_up_to limit word =
    let n = digits_number word in
    if same_name (decimal n) word && nat_le n limit then Some n else None

-- a length or an index
abbrev pub count_of : List ℕ → Option ℕ
count_of word = number_up_to 4294967295 word

-- the number that a word writes, which may begin with `-`
abbrev pub signed_number : List ℕ → ℤ
signed_number [] = pos 0
signed_number (b ∷ bs) = if nat_eq b 45 then neg_ℤ (pos (digits_number bs)) else pos (digits_number (b ∷ bs))

-- a number of the greatest kind
abbrev pub number_of : List ℕ → Option ℤ
number_of word =
    let z = signed_number word in
    if same_name (signed_decimal z) word && in_range Long z then Some z else None
