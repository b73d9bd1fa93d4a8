use Rattle.std.proofs.Common.{◌≡◌, take}
use Rattle.heap_graph.specs.Reach.{held_by}
use Rattle.plain_graph.proofs.reach.held_by.Given as goal

abbrev pub invariant-loop-v : goal.invariant-loop-v
invariant-loop-v l = l.held.items ≡ held_by (take l.v-index l.nodes) l.seen
