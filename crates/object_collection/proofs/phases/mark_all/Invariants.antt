use Rattle.std.proofs.Common.{◌≡◌, map, take}
use Rattle.object_collection.specs.Phases.{marked_by}
use Rattle.object_collection.proofs.phases.mark_all.Given as goal

-- the objects before this one are marked
abbrev pub invariant-loop-at : goal.invariant-loop-at
invariant-loop-at l = l.larges ≡ map (marked_by (take l.at-index l.large)) l.fn.larges
