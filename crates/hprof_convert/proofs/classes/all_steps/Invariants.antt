use Rattle.std.proofs.Common.{◌≡◌, map, take}
use Rattle.dump_graph.specs.Climbing.{step_from}
use Rattle.hprof_convert.proofs.classes.all_steps.Given as goal

abbrev pub invariant-loop-class : goal.invariant-loop-class
invariant-loop-class l = l.steps.items ≡ map (step_from l.known) (take l.class-index l.known)
