use Rattle.std.proofs.Common.{◌≡◌, map}
use Rattle.std.specs.List.{range_with_len}
use Rattle.dump_graph.specs.Climbing.{standing}
use Rattle.dump_graph.proofs.climb.all_standing.Given as goal

abbrev pub invariant-loop-class : goal.invariant-loop-class
invariant-loop-class l = l.climbs.items ≡ map standing (range_with_len 0 l.class)
