-- How a count of faults rises.
use Rattle.std.proofs.Common.{◌≡◌, ℕ, arith}
use Rattle.ah_outside.specs.Counts.{one_more}
use Rattle.ah_outside.specs.Outside.{FaultRose}

pub FaultRose-one_more : (before now : ℕ) → now ≡ one_more before → FaultRose before now
FaultRose-one_more before now counted = grind arith
