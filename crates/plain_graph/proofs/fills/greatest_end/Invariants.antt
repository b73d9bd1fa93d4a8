use Rattle.std.proofs.Common.{◌≡◌, ◌<◌, map, take}
use Rattle.heap_graph.specs.Graph.{greatest, zygote_end}
use Rattle.plain_graph.proofs.fills.greatest_end.Given as goal

abbrev pub invariant-loop-o : goal.invariant-loop-o
invariant-loop-o l = record {
  so_far : l.fill ≡ greatest (map (λ o. zygote_end l.classes o o.place) (take l.o-index l.objects));
  small : l.fill < 274877906944;
}
