use Rattle.std.proofs.Common.{◌≡◌}
use Rattle.heap_graph.specs.Reach.{round}
use Rattle.plain_graph.proofs.reach.reached_from.Given as goal

abbrev pub invariant-loop : goal.invariant-loop
invariant-loop l = l.seen.items ≡ round l.nodes l.from l.index
