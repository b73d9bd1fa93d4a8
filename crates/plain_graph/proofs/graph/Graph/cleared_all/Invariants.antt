use Rattle.std.proofs.Common.{◌≡◌, map, filter, take}
use Rattle.heap_graph.specs.Collection.{cleared, is_kept}
use Rattle.plain_graph.proofs.graph.Graph.cleared_all.Given as goal

abbrev pub invariant-loop-o : goal.invariant-loop-o
invariant-loop-o l = l.objects.items ≡ map (cleared l.kept) (filter (is_kept l.self.sealed l.seen) (take l.o-index l.self.objects))
