-- The first regions and slots suffice.
use Rattle.std.proofs.Common.{◌≡◌, ℕ, zero, suc, ◌+◌, ◌*◌, ◌/◌, ◌<◌, ◌≤◌, List, [], ◌∷◌, slice_index, arith}
use Rattle.model_numbers.specs.Numbers.{large_base, large_slot_bytes, large_slot_count, region_base, region_bytes}
use Rattle.class_layout.specs.ClassList.{Class}
use Rattle.heap_graph.specs.declared.names.Place.{Place}
use Rattle.heap_graph.specs.declared.names.Place.TheVariants as place
use Rattle.heap_graph.specs.Graph.{Graph, Object}
use Rattle.heap_graph.specs.Packing.{cost}
use Rattle.heap_graph.specs.Sizes.{unrounded}
use Rattle.heap_graph.proofs.Sizes.{unrounded-least}
use Rattle.heap_graph.proofs.Totals.{total}
use Rattle.heap_graph.specs.Formed.{IsFormed}
use Rattle.heap_world.specs.Pages.{count_from}
use Rattle.heap_world.proofs.Bounds.{length-count}
use Rattle.heap_world.proofs.Placed.{costs-is}
use Rattle.address_table.specs.Computed.{first_homes, large_behind, large_count, packed_at, slot_at, AreNumbers, HouseAll}

count-index : (start n i : ℕ) → i < n → slice_index (count_from start n) i ≡ start + i
count-index start zero i less = absurd (omega (arith, less))
count-index start (suc n) zero less = omega arith
count-index start (suc n) (suc i) less = omega (arith, count-index (start + 1) n i (omega (arith, less)))

are-numbers : (n most : ℕ) → n ≤ most → AreNumbers most (count_from 0 n)
are-numbers n most le = (
  (λ i less. let is = count-index 0 n i (omega (arith, less, length-count 0 n)) in omega (arith, is, less, length-count 0 n)),
  (λ i j i-less j-less e.
      let i-is = count-index 0 n i (omega (arith, i-less, length-count 0 n)) in
      let j-is = count-index 0 n j (omega (arith, j-less, length-count 0 n)) in
      omega (arith, i-is, j-is, e)),
)

-- among the first regions a packing place stands as far from the window's start as from that of the first packing region
pub packed-first : (budget p : ℕ) → p < region_bytes * budget → packed_at (count_from 0 budget) p ≡ region_base + p
packed-first budget p less = let is = count-index 0 budget (p / region_bytes) (omega (arith, less)) in omega (arith, is)

-- among the slots in their order the k-th object has the k-th
pub slot-first : (k : ℕ) → k < large_slot_count → slot_at (count_from 0 large_slot_count) k ≡ large_base + k * large_slot_bytes
slot-first k less = let is = count-index 0 large_slot_count k less in omega (arith, is)

-- each large object costs a region
counted : (cs : List Class) (large : ℕ) (os : List Object) → large_count large os ≤ large + total (λ o. cost cs o o.place) os
counted cs large [] = omega arith
counted cs large (o ∷ os) = by o.place (λ (n : ℕ). counted cs n os)
  where
    some : 8 ≤ unrounded cs o.shape
    some = unrounded-least cs o.shape

    by : (at : Place) → ((n : ℕ) → large_count n os ≤ n + total (λ o. cost cs o o.place) os)
        → large_count (large_behind large at) os ≤ large + (cost cs o at + total (λ o. cost cs o o.place) os)
    by (place.Image spot) rest = omega (arith, rest large)
    by (place.Zygote spot) rest = omega (arith, rest large)
    by place.Young rest = omega (arith, rest large)
    by place.Large rest = omega (arith, rest (large + 1), some)
    by place.Promoted rest = omega (arith, rest (large + 1), some)

pub suffice : (g : Graph) → IsFormed g → HouseAll (first_homes g.budget) g
suffice g formed =
    let within = formed.regions in
    let few = formed.budget in
    record {
      regions = are-numbers g.budget (2 * g.budget) (omega arith);
      slots = are-numbers 512 512 (omega arith);
      for_young = omega (arith, length-count 0 g.budget, within);
      for_large = omega (arith, length-count 0 512, counted g.classes 0 g.objects, costs-is g, within, few);
    }
