-- The table of addresses of a graph, computed from where a process keeps what may stand in several places.
use Rattle.std.specs.Prelude.{◌≡◌, ℕ, ◌+◌, ◌*◌, ◌/◌, ◌%◌, ◌<◌, ◌≤◌, List, [], ◌∷◌, cond, length, nat_eq, slice_index}
use Rattle.model_numbers.specs.Numbers.{large_base, large_slot_bytes, large_slot_count, region_base, region_bytes}
use Rattle.class_layout.specs.ClassList.{Class}
use Rattle.heap_graph.specs.declared.names.Place.{Place}
use Rattle.heap_graph.specs.declared.names.Place.TheVariants.{Image, Zygote, Young, Large, Promoted}
use Rattle.heap_graph.specs.Graph.{Graph, Object, size_of_object}
use Rattle.heap_graph.specs.Packing.{after, place, used}
use Rattle.heap_world.specs.Pages.{count_from}

-- which region of the window each packing region is, and which slot each large object has, by rising number
pub record Homes : Type 0 where
  pub regions : List ℕ
  pub slots : List ℕ

-- the address of a packing place
abbrev pub packed_at : List ℕ → ℕ → ℕ
packed_at regions p = region_base + slice_index regions (p / region_bytes) * region_bytes + p % region_bytes

-- the address of the k-th large object
abbrev pub slot_at : List ℕ → ℕ → ℕ
slot_at slots k = large_base + slice_index slots k * large_slot_bytes

-- the address of an object behind young ones that end there, and behind so many large ones
abbrev pub address_in : Homes → List Class → ℕ → ℕ → Object → Place → ℕ
address_in homes cs end large o (Image spot) = spot
address_in homes cs end large o (Zygote spot) = spot
address_in homes cs end large o Young = packed_at homes.regions (place end (size_of_object cs o))
address_in homes cs end large o Large = slot_at homes.slots large
address_in homes cs end large o Promoted = slot_at homes.slots large

-- where the young objects end behind an object
abbrev pub end_behind : List Class → ℕ → Object → Place → ℕ
end_behind cs end o (Image spot) = end
end_behind cs end o (Zygote spot) = end
end_behind cs end o Young = after end (size_of_object cs o)
end_behind cs end o Large = end
end_behind cs end o Promoted = end

-- how many large objects there are behind an object
abbrev pub large_behind : ℕ → Place → ℕ
large_behind large (Image spot) = large
large_behind large (Zygote spot) = large
large_behind large Young = large
large_behind large Large = large + 1
large_behind large Promoted = large + 1

-- the addresses of objects behind others, by number; 0 is the address of none
abbrev pub table_from : Homes → List Class → ℕ → ℕ → List Object → ℕ → ℕ
table_from homes cs end large [] n = 0
table_from homes cs end large (o ∷ os) n =
    cond (nat_eq o.number n) (address_in homes cs end large o o.place)
    (table_from homes cs (end_behind cs end o o.place) (large_behind large o.place) os n)

-- the addresses of objects behind others, in a row
abbrev pub addresses_from : Homes → List Class → ℕ → ℕ → List Object → List ℕ
addresses_from homes cs end large [] = []
addresses_from homes cs end large (o ∷ os) =
    address_in homes cs end large o o.place ∷ addresses_from homes cs (end_behind cs end o o.place) (large_behind large o.place) os

-- the addresses of a graph's objects, by number
abbrev pub table_of : Homes → Graph → ℕ → ℕ
table_of homes g = table_from homes g.classes 0 0 g.objects

-- how many large objects there are, promoted or not
abbrev pub large_count : ℕ → List Object → ℕ
large_count large [] = large
large_count large (o ∷ os) = large_count (large_behind large o.place) os

-- each number stands in the list once, and is less than so many
abbrev pub AreNumbers : ℕ → List ℕ → Type 0
AreNumbers most ks =
    ((i : ℕ) → i < length ks → slice_index ks i < most)
    × ((i j : ℕ) → i < length ks → j < length ks → slice_index ks i ≡ slice_index ks j → i ≡ j)

-- there is a region of the window for each that is used, and one of the 512 slots for each large object
pub record HouseAll (homes : Homes) (g : Graph) : Type 0 where
  pub regions : AreNumbers (2 * g.budget) homes.regions
  pub slots : AreNumbers large_slot_count homes.slots
  pub for_young : used g ≤ length homes.regions
  pub for_large : large_count 0 g.objects ≤ length homes.slots

-- the first regions of the window in their order, so many, and the slots in theirs
abbrev pub first_homes : ℕ → Homes
first_homes budget = record { regions = count_from 0 budget; slots = count_from 0 large_slot_count }
