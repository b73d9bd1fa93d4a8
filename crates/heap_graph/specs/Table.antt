-- Tables of addresses: where the objects of a graph stand, by their numbers.
use Rattle.std.specs.Prelude.{◌≡◌, ◌↔◌, ℕ, ◌+◌, ◌-◌, ◌*◌, ◌/◌, ◌%◌, ◌^◌, ◌<◌, Bool, true, false, List, map}
use Rattle.std.specs.List.{zip}
use Rattle.model_numbers.specs.Numbers.{large_base, large_slot_bytes, large_slot_count, region_base, region_bytes}
use Rattle.class_layout.specs.Placing.{IsIn}
use Rattle.heap_graph.specs.declared.names.Place.{Place}
use Rattle.heap_graph.specs.declared.names.Place.TheVariants.{Image, Zygote, Young, Large, Promoted}
use Rattle.heap_graph.specs.Graph.{Object, Graph}
use Rattle.heap_graph.specs.Packing.{places_from, young_objects, young_sizes}

-- the young objects' numbers by rising number, each with its packing place
abbrev pub packing : Graph → List (ℕ × ℕ)
packing g = zip (map (λ o. o.number) (young_objects g)) (places_from 0 (young_sizes g))

-- the region in which an address lies, by its number in the window
abbrev pub region_of : ℕ → ℕ
region_of at = (at - region_base) / region_bytes

-- the first byte of one of the 512 large slots
abbrev pub IsSlot : ℕ → Type 0
IsSlot at = (k : ℕ) × (k < large_slot_count) × (at ≡ large_base + k * large_slot_bytes)

-- an address of one of 2N regions, as far from the region's start as a packing place is from that of its own
abbrev pub IsPackedAt : ℕ → ℕ → ℕ → Type 0
IsPackedAt budget place at =
    (region : ℕ) × (region < 2 * budget) × (at ≡ region_base + region * region_bytes + place % region_bytes)

-- an object that doesn't move stands at its spot, a large one in a slot, promoted or not
abbrev pub IsPlacedAt : Place → ℕ → Type 0
IsPlacedAt (Image spot) at = at ≡ spot
IsPlacedAt (Zygote spot) at = at ≡ spot
IsPlacedAt Young at = Unit {0}
IsPlacedAt Large at = IsSlot at
IsPlacedAt Promoted at = IsSlot at

-- the table gives the graph's objects addresses that follow the rules of the heap
pub record Fits (table : ℕ → ℕ) (g : Graph) : Type 0 where
  -- an address has 32 bits
  pub below : (n : ℕ) → table n < 2 ^ 32
  -- two objects stand at two addresses
  pub apart : (a b : Object) → IsIn a g.objects → IsIn b g.objects → table a.number ≡ table b.number → a ≡ b
  pub placed : (o : Object) → IsIn o g.objects → IsPlacedAt o.place (table o.number)
  pub packed : (p : ℕ × ℕ) → IsIn p (packing g) → IsPackedAt g.budget p.1 (table p.0)
  -- two young objects stand in one region exactly where their packing places lie in one
  pub together : (p q : ℕ × ℕ) → IsIn p (packing g) → IsIn q (packing g)
      → (region_of (table p.0) ≡ region_of (table q.0)) ↔ (p.1 / region_bytes ≡ q.1 / region_bytes)

-- an object stands in the image or in the zygote window
abbrev pub in_spot_window : Place → Bool
in_spot_window (Image spot) = true
in_spot_window (Zygote spot) = true
in_spot_window Young = false
in_spot_window Large = false
in_spot_window Promoted = false
