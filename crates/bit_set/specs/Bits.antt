-- A set of numbers below a bound, as a row of bits.
use Rattle.std.specs.Prelude.{ℕ, ◌*◌, ◌/◌, ◌%◌, Bool, ◌==◌, List, length, slice_index}
use Rattle.std.specs.Int.{bit_at}

-- the words of a set, 64 numbers in each, the least of them in the lowest bit
pub record Bits : Type 0 where
  pub words : List ℕ

-- the bit of a word is 1
unfoldable pub has_bit : ℕ → ℕ → Bool
has_bit word i = bit_at word i == 1

-- the words have the number
unfoldable pub has_number : List ℕ → ℕ → Bool
has_number words n = has_bit (slice_index words (n / 64)) (n % 64)

-- the numbers below it may be members; it is a multiple of 64
unfoldable pub room : Bits → ℕ
room b = 64 * length b.words

-- the number is a member; none is from `room` on
unfoldable pub is_member : Bits → ℕ → Bool
is_member b = has_number b.words
