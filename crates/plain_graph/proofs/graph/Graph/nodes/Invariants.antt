use Rattle.std.proofs.Common.{◌≡◌, map, take}
use Rattle.heap_graph.specs.Reach.{node_of}
use Rattle.plain_graph.proofs.graph.Graph.nodes.Given as goal

abbrev pub invariant-loop-o : goal.invariant-loop-o
invariant-loop-o l = l.nodes.items ≡ map (node_of l.self.sealed) (take l.o-index l.self.objects)
