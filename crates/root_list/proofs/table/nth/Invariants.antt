use Rattle.std.proofs.Common.{◌≡◌, ◌<◌, ◌-◌, length, slice_get, drop}
use Rattle.root_list.specs.Places.{roots_of}
use Rattle.root_list.proofs.table.nth.Given as goal

-- the root is among those from this place on
abbrev pub invariant-loop-place : goal.invariant-loop-place
invariant-loop-place l = record {
  within : l.left < length (roots_of (drop l.place l.fn.names) (drop l.place l.fn.addresses));
  same : slice_get (roots_of (drop l.place l.fn.names) (drop l.place l.fn.addresses)) l.left ≡ slice_get (roots_of (drop l.fn.from l.fn.names) (drop l.fn.from l.fn.addresses)) l.fn.k;
}

abbrev pub decreases-loop-place : goal.decreases-loop-place
decreases-loop-place l = length l.fn.names - l.place
