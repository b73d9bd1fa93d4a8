use Rattle.std.proofs.Common.{◌≡◌, ◌*◌, ◌≤◌, map, sum, take}
use Rattle.model_numbers.specs.Numbers.{most_array_bytes}
use Rattle.heap_graph.specs.Graph.{image_size}
use Rattle.plain_graph.proofs.fills.image_bytes.Given as goal

-- the bytes of the objects so far, at most 1,048,576 each
abbrev pub invariant-loop-o : goal.invariant-loop-o
invariant-loop-o l = record {
  so_far : l.fill ≡ sum (map (λ o. image_size l.classes o o.place) (take l.o-index l.objects));
  small : l.fill ≤ most_array_bytes * l.o-index;
}
