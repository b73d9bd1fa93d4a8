use Rattle.std.proofs.Common.{◌≡◌, ◌≤◌, filter, length, take}
use Rattle.large_objects.specs.Rows.{waits}
use Rattle.object_collection.proofs.phases.waiting.Given as goal

-- those before this one are counted
abbrev pub invariant-loop-row : goal.invariant-loop-row
invariant-loop-row l = record {
  counted : l.count ≡ length (filter waits (take l.row-index l.row-items));
  few : l.count ≤ l.row-index;
}
