use Rattle.std.proofs.Common.{◌-◌, length}
use Rattle.root_paths.specs.Levels.{ReachedTo}
use Rattle.root_paths.proofs.levels.reach_all.Given as goal

abbrev pub invariant-loop-alloc : goal.invariant-loop-alloc
invariant-loop-alloc l = ReachedTo l.graph l.level l.reached.items l.from.items

abbrev pub decreases-loop-alloc : goal.decreases-loop-alloc
decreases-loop-alloc l = length l.graph - l.level
