-- A mark bitmap: a set of addresses that are multiples of 8, in a span of addresses.
use Rattle.std.specs.Prelude.{◌≡◌, ℕ, ◌+◌, ◌-◌, ◌/◌, ◌%◌, ◌^◌, ◌<◌, ◌≤◌, Bool, ◌&&◌, ◌==◌, nat_le, nat_lt, IsTrue}
use Rattle.bit_set.specs.Bits.{Bits, is_member}

-- where the span starts, how many bytes it has, and the bits, one for each 8 bytes
pub record Marks : Type 0 where
  pub start : ℕ
  pub span : ℕ
  pub bits : Bits

-- the address lies in the span, and is a multiple of 8
pub record IsPlace (b : Marks) (at : ℕ) : Type 0 where
  pub aligned : at % 8 ≡ 0
  pub from : b.start ≤ at
  pub below : at < b.start + b.span

-- the address is a member
unfoldable pub is_marked : Marks → ℕ → Bool
is_marked b at = (at % 8 == 0) && (nat_le b.start at && (nat_lt at (b.start + b.span) && is_member b.bits ((at - b.start) / 8)))

-- which multiple of 8 of the span, counted from 0, is the first at or above the address
abbrev pub first_place : Marks → ℕ → ℕ
first_place b at = (at - b.start + 7) / 8

-- the span is the same
abbrev pub SameSpan : Marks → Marks → Type 0
SameSpan old new = (new.start ≡ old.start) × (new.span ≡ old.span)

-- the span begins at a multiple of 8 and ends within 32 bits, and its places alone are members
pub record IsWellPlaced (b : Marks) : Type 0 where
  pub aligned : b.start % 8 ≡ 0
  pub bounded : b.start + b.span ≤ 2 ^ 32
  pub places : (at : ℕ) → IsTrue (is_marked b at) → IsPlace b at
