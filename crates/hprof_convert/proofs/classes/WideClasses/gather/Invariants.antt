use Rattle.std.proofs.Common.{◌-◌, length}
use Rattle.dump_graph.specs.Climbing.{gathered}
use Rattle.hprof_convert.proofs.Gathering.{IsGathered}
use Rattle.hprof_convert.proofs.classes.WideClasses.gather.Given as goal

abbrev pub invariant-loop : goal.invariant-loop
invariant-loop l = IsGathered l.self l.width (gathered l.self (length l.self) l.class) l.size l.at (l.end - l.counter) l.codes.items l.left
