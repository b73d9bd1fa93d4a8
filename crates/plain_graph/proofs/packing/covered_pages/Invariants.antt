use Rattle.std.proofs.Common.{◌≡◌, ◌+◌, ◌*◌, ◌≤◌, ◌++◌, drop}
use Rattle.model_numbers.specs.Numbers.{region_bytes, most_array_bytes}
use Rattle.heap_graph.specs.Packing.{places_from}
use Rattle.heap_world.specs.Pages.{all_covered}
use Rattle.plain_graph.proofs.packing.covered_pages.Given as goal

-- the pages so far and those of the further sizes are all of them
abbrev pub invariant-loop-size : goal.invariant-loop-size
invariant-loop-size l = record {
  so_far : l.pages.items ++ all_covered (places_from l.end (drop l.size-index l.sizes)) (drop l.size-index l.sizes) ≡ all_covered (places_from 0 l.sizes) l.sizes;
  small : l.end ≤ (most_array_bytes + region_bytes) * l.size-index;
}
