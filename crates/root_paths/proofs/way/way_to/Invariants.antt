use Rattle.std.proofs.Common.{◌-◌}
use Rattle.root_paths.specs.Levels.{IsWayBack}
use Rattle.root_paths.proofs.way.way_to.Given as goal

abbrev pub invariant-loop : goal.invariant-loop
invariant-loop l = IsWayBack l.reached l.level l.number (l.level - l.counter) l.at l.way.items
