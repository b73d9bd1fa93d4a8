-- The live objects as marking tells them.
use Rattle.std.specs.Prelude.{◌≡◌, ◌↔◌, ℕ, ◌+◌, ◌*◌, ◌<◌, ◌≤◌, true, IsTrue, List, [], ◌∷◌, map, length, All}
use Rattle.std.specs.List.{Contains}
use Rattle.model_numbers.specs.Numbers.{large_slot_count, region_bytes}
use Rattle.page_tables.specs.declared.address.Addr.{Addr}
use Rattle.bit_set.specs.Bits.{Bits, is_member, room}
use Rattle.raw_objects.specs.References.{in_regions}
use Rattle.region_lists.specs.Rows.{Row}
use Rattle.region_space.specs.Packed.{address_in}
use Rattle.large_objects.specs.Rows.{slot_base}

-- the numbers rise, each from low on
abbrev pub AreRising : ℕ → List ℕ → Type 0
AreRising low [] = Unit {0}
AreRising low (n ∷ rest) = (low ≤ n) × AreRising (n + 1) rest

abbrev pub addresses : List Addr → List ℕ
addresses ats = map (λ at. at.0) ats

-- exactly the objects of the regions that are reached, each once, in the order of their packing places: region by region
-- as these were opened, and in each region by rising address
pub record ListsYoung (in_use : List Row) (reached : ℕ → Type 0) (young : List Addr) : Type 0 where
  pub places : List ℕ
  pub rising : AreRising 0 places
  pub within : All (λ p. p < region_bytes * length in_use) places
  pub stand : addresses young ≡ map (address_in in_use) places
  pub only : (a : ℕ) → Contains (addresses young) a ↔ ((in_regions a ≡ true) × reached a)

-- exactly the slots whose objects are reached
pub record HasLarge (reached : ℕ → Type 0) (large : Bits) : Type 0 where
  pub all : room large ≡ large_slot_count
  pub only : (slot : ℕ) → slot < large_slot_count → IsTrue (is_member large slot) ↔ reached (slot_base slot)
