use Rattle.std.proofs.Common.{◌≡◌, ◌+◌, ◌*◌, ◌≤◌, filter, map, take}
use Rattle.model_numbers.specs.Numbers.{region_bytes, most_array_bytes}
use Rattle.heap_graph.specs.Graph.{is_young, size_of_object}
use Rattle.heap_graph.specs.Packing.{end_from}
use Rattle.plain_graph.proofs.packing.end_of_young.Given as goal

-- the end of the young objects so far
abbrev pub invariant-loop-o : goal.invariant-loop-o
invariant-loop-o l = record {
  so_far : l.end ≡ end_from 0 (map (size_of_object l.classes) (filter (λ o. is_young o.place) (take l.o-index l.objects)));
  small : l.end ≤ (most_array_bytes + region_bytes) * l.o-index;
}
