use Rattle.std.proofs.Common.{◌≡◌, ◌≤◌, filter, length, map, take}
use Rattle.std.specs.List.{All}
use Rattle.model_numbers.specs.Numbers.{most_array_bytes}
use Rattle.heap_graph.specs.Graph.{is_young, size_of_object}
use Rattle.plain_graph.proofs.packing.sizes_of_young.Given as goal

-- the sizes of the young objects so far
abbrev pub invariant-loop-o : goal.invariant-loop-o
invariant-loop-o l = record {
  so_far : l.sizes.items ≡ map (size_of_object l.classes) (filter (λ o. is_young o.place) (take l.o-index l.objects));
  small : All (λ s. s ≤ most_array_bytes) l.sizes.items;
  few : length l.sizes.items ≤ l.o-index;
}
