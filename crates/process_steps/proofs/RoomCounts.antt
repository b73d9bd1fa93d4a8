-- The free regions of a process are those of its graph, and what an object would open is what it needs.
use Rattle.std.proofs.Common.{◌≡◌, ◌∙◌, ℕ, ◌+◌, ◌-◌, true, false, List, [], ◌∷◌, length, refl, sym, ap, arith}
use Rattle.model_numbers.specs.Numbers.{region_bytes}
use Rattle.class_layout.specs.ClassList.{Class}
use Rattle.cow_pages.specs.Memory.{Memory}
use Rattle.heap_graph.specs.declared.names.Place.{Place}
use Rattle.heap_graph.specs.declared.names.Place.TheVariants as place
use Rattle.heap_graph.specs.declared.names.Shape.{Shape}
use Rattle.heap_graph.specs.Allocation.{needs, needs_if}
use Rattle.heap_graph.specs.Formed.{IsShape}
use Rattle.heap_graph.specs.Graph.{Graph, Object}
use Rattle.heap_graph.specs.Packing.{after, cost, costs, end_of, free, used, young_sizes}
use Rattle.heap_graph.specs.Sizes.{is_large, parts_for, size_in, unrounded}
use Rattle.heap_graph.proofs.Sizes.{size-least}
use Rattle.heap_graph.proofs.Totals.{sum-total, total}
use Rattle.heap_world.specs.Part.{Part}
use Rattle.address_table.specs.Computed.{large_behind}
use Rattle.address_table.proofs.Beside.{not-too-large}
use Rattle.heap_graph.proofs.Sizes.{young-packed}
use Rattle.large_objects.specs.Rows.{costs_of}
use Rattle.large_objects.proofs.TableLemmas.{costs-cons}
use Rattle.region_space.specs.Space.{would_open, IsSize}
use Rattle.region_space.proofs.PackLemmas.{pack-opens}
use Rattle.evacuate.specs.Stands.{homes_of, row_of, rows_from, with_row}
use Rattle.process_state.specs.Stands.{StandsIn}
use Rattle.process_state.specs.State.{heap_of, State}
use Rattle.process_steps.specs.Counting.{free_regions}

-- the rows cost as much as the graph's large objects
costs-rows : (cs : List Class) (slots : List ℕ) (k : ℕ) (os : List Object) → costs_of (rows_from cs slots k os) ≡ total (λ o. cost cs o o.place) os
costs-rows cs slots k [] = refl
costs-rows cs slots k (o ∷ os) = by o.place (λ n. costs-rows cs slots n os)
  where
    rest : ℕ
    rest = total (λ x. cost cs x x.place) os

    by : (at : Place) → ((n : ℕ) → costs_of (rows_from cs slots n os) ≡ rest) → costs_of (with_row cs slots k o at (rows_from cs slots (large_behind k at) os)) ≡ cost cs o at + rest
    by (place.Image spot) is = omega (arith, is k)
    by (place.Zygote spot) is = omega (arith, is k)
    by place.Young is = omega (arith, is k)
    by place.Large is = costs-cons (row_of cs slots k o false) (rows_from cs slots (k + 1) os) ∙ ap (λ n. parts_for region_bytes (unrounded cs o.shape) + n) (is (k + 1))
    by place.Promoted is = costs-cons (row_of cs slots k o true) (rows_from cs slots (k + 1) os) ∙ ap (λ n. parts_for region_bytes (unrounded cs o.shape) + n) (is (k + 1))

-- an object that isn't large fits a region
is-size : (g : Graph) (shape : Shape) → IsShape g.classes shape → is_large g.classes shape ≡ false → IsSize (size_in g.classes shape)
is-size g shape formed plain =
    let o : Object = record { number = 0; shape = shape; slots = []; place = place.Young } in
    let packed = young-packed (record g { objects = o ∷ [] }) ((not-too-large g.classes shape formed, plain), tt) in
    record { multiple = omega arith; least = size-least g.classes o; greatest = omega (arith, packed.1.1, packed.1.2) }

module _ (s : State) (m : Memory) (p : Part) (k : StandsIn s m p) where
  used-is : length s.regions.in_use ≡ used p.graph
  used-is = k.heap.stands.packed.pack.used

  costs-are : costs_of s.rows ≡ costs p.graph
  costs-are = ap costs_of k.heap.stands.rows ∙ costs-rows p.graph.classes (homes_of (heap_of s [])).slots 0 p.graph.objects ∙ sym (sum-total (λ o. cost p.graph.classes o o.place) p.graph.objects)

  pub free-is : free_regions s ≡ free p.graph
  free-is = ap (λ n. n - length s.regions.in_use - costs_of s.rows) k.counts.budget ∙ ap (λ n. p.graph.budget - n - costs_of s.rows) used-is ∙ ap (λ n. p.graph.budget - used p.graph - n) costs-are

  pub opens-is : (shape : Shape) → IsShape p.graph.classes shape → is_large p.graph.classes shape ≡ false → would_open s.regions.in_use (size_in p.graph.classes shape) ≡ needs p.graph shape
  opens-is shape formed plain =
      let size : ℕ = size_in p.graph.classes shape in
      let more : parts_for region_bytes (after (end_of p.graph) size) ≡ used p.graph + would_open s.regions.in_use size =
      pack-opens s.regions.in_use (young_sizes p.graph) size k.heap.stands.packed.pack (is-size p.graph shape formed plain) in
      let grown : would_open s.regions.in_use size ≡ parts_for region_bytes (after (end_of p.graph) size) - used p.graph = omega (arith, more) in
      grown ∙ ap (λ b. needs_if b p.graph shape) (sym plain)
