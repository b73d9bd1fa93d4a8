-- Bits over a span of addresses, one for each step of them.
use Rattle.std.specs.Prelude.{◌≡◌, ℕ, ◌+◌, ◌*◌, ◌%◌, ◌^◌, ◌<◌, ◌≤◌, IsTrue}
use Rattle.bit_set.specs.Bits.{Bits, room, is_member}

-- the span begins at a multiple of the step and ends within 32 bits, the bits have room for it, and none is set past it
pub record AreOver (step start span : ℕ) (bits : Bits) : Type 0 where
  pub aligned : start % step ≡ 0
  pub bounded : start + span ≤ 2 ^ 32
  pub roomy : span ≤ step * room bits
  pub inside : (k : ℕ) → IsTrue (is_member bits k) → step * k < span
