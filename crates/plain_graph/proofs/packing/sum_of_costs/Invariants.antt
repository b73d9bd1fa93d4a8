use Rattle.std.proofs.Common.{◌≡◌, ◌*◌, ◌≤◌, map, sum, take}
use Rattle.heap_graph.specs.Packing.{cost}
use Rattle.plain_graph.proofs.packing.sum_of_costs.Given as goal

-- the regions of the objects so far, at most 4 each
abbrev pub invariant-loop-o : goal.invariant-loop-o
invariant-loop-o l = record {
  so_far : l.regions ≡ sum (map (λ o. cost l.classes o o.place) (take l.o-index l.objects));
  small : l.regions ≤ 4 * l.o-index;
}
