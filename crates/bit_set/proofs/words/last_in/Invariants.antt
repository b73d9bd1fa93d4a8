use Rattle.std.proofs.Common.{ℕ, ◌*◌, ◌<◌, ◌≤◌, IsFalse}
use Rattle.bit_set.specs.Bits.{has_number}
use Rattle.bit_set.proofs.words.last_in.Given as goal

abbrev pub invariant-loop-k : goal.invariant-loop-k
invariant-loop-k l = (q : ℕ) → 64 * l.k ≤ q → q < 64 * l.end → IsFalse (has_number l.words q)
