use Rattle.std.proofs.Common.{◌≡◌, List, map}
use Rattle.dump_graph.specs.Classes.{Class}
use Rattle.dump_graph.specs.Climbing.{HasClimbed, step_from}
use Rattle.dump_graph.proofs.climb.climbed_by.Given as goal

abbrev pub invariant-loop-left : goal.invariant-loop-left
invariant-loop-left l = (known : List Class) → l.fn.one.items ≡ map (step_from known) known → HasClimbed known l.steps l.left l.climbs.items l.power.items

abbrev pub decreases-loop-left : goal.decreases-loop-left
decreases-loop-left l = l.left
