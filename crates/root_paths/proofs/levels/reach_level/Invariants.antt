use Rattle.std.proofs.Common.{take}
use Rattle.root_paths.specs.Levels.{MadeLevel}
use Rattle.root_paths.proofs.levels.reach_level.Given as goal

abbrev pub invariant-loop-number : goal.invariant-loop-number
invariant-loop-number l = MadeLevel l.graph l.level (take l.number-index l.from) l.fn.reached l.reached l.next.items
