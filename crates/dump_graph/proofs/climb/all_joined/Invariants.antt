use Rattle.std.proofs.Common.{◌≡◌, map, take}
use Rattle.dump_graph.specs.Climbing.{join_with}
use Rattle.dump_graph.proofs.climb.all_joined.Given as goal

abbrev pub invariant-loop-one : goal.invariant-loop-one
invariant-loop-one l = l.longer.items ≡ map (join_with l.more) (take l.one-index l.climbs)
