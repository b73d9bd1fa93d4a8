use Rattle.std.proofs.Common.{ℕ, ◌*◌, ◌<◌, ◌≤◌, IsFalse}
use Rattle.bit_set.specs.Bits.{has_number}
use Rattle.bit_set.proofs.words.first_in.Given as goal

abbrev pub invariant-loop-k : goal.invariant-loop-k
invariant-loop-k l = (q : ℕ) → 64 * l.first ≤ q → q < 64 * l.k → IsFalse (has_number l.words q)
