use Rattle.std.proofs.Common.{take}
use Rattle.root_paths.specs.Levels.{Led}
use Rattle.root_paths.proofs.levels.reach_targets.Given as goal

abbrev pub invariant-loop-target : goal.invariant-loop-target
invariant-loop-target l = Led l.level l.before (take l.target-index l.targets) l.fn.reached l.fn.next.items l.reached l.next.items
