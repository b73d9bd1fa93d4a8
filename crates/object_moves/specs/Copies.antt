-- Objects of the regions that are copied one behind the other.
use Rattle.std.specs.Prelude.{◌≡◌, ◌≢◌, ◌⊎◌, ℕ, zero, suc, ◌+◌, ◌*◌, ◌<◌, ◌≤◌, true, false, IsTrue, List, [], length, map, slice_index_or}
use Rattle.std.specs.List.{list_any}
use Rattle.model_numbers.specs.Numbers.{region_base, region_bytes, region_count}
use Rattle.class_layout.specs.ClassList.{Class}
use Rattle.page_tables.specs.declared.address.Addr.{Addr}
use Rattle.page_tables.specs.declared.address.Window.TheVariants.{Regions}
use Rattle.page_tables.specs.Address.{is_in}
use Rattle.cow_pages.specs.Memory.{Memory, is_live, page_at, IsSound}
use Rattle.cow_pages.specs.View.{view_of, View}
use Rattle.heap_graph.specs.Packing.{end_from, places_from}
use Rattle.heap_graph.specs.Sizes.{parts_for}
use Rattle.region_lists.specs.Rows.{Lists, Row}
use Rattle.region_space.specs.Packed.{address_in, packed_pages, Pack}
use Rattle.page_runs.specs.Covered.{covers}
use Rattle.region_space.specs.Pages.{IsObjectIn}
use Rattle.region_space.specs.Space.{filled, further_pages, holds_page, would_open, AreAlone, HasPages, IsSpace}
use Rattle.raw_objects.specs.Raws.{evacuated, forwarded_raw, raw_size, HoldsRaws, Raws}
use Rattle.raw_objects.specs.References.{in_regions}

-- the i-th of the addresses
abbrev pub at_of : List Addr → ℕ → ℕ
at_of ats i = (slice_index_or ats i (record { 0 = 0 })).0

-- the first k of the objects were copied, each to the address that stands at its place in the other list
abbrev pub moved : Raws → List Addr → List Addr → ℕ → Raws
moved raws froms tos zero = raws
moved raws froms tos (suc k) = evacuated (moved raws froms tos k) (at_of froms k) (at_of tos k)

-- the bytes that the objects at these addresses take
abbrev pub sizes_at : List Class → Raws → List Addr → List ℕ
sizes_at cs raws ats = map (λ (a : Addr). raw_size cs raws a.0) ats

-- the object has no byte in the region window
abbrev pub IsBesideRegions : ℕ → ℕ → Type 0
IsBesideRegions at size = (at + size ≤ region_base) ⊎ (region_base + region_count * region_bytes ≤ at)

-- memory holds the objects; those of the region window lie in the rows in use and from, whose pages are mapped there, and
-- no other, each with its frame alone
pub record HoldsRegions (cs : List Class) (m : Memory) (t : ℕ) (s : Lists) (raws : Raws) : Type 0 where
  pub live : IsTrue (is_live m t)
  pub sound : IsSound m
  pub space : IsSpace s
  pub pages : HasPages m t (filled s)
  pub alone : AreAlone m t (filled s)
  pub holds : HoldsRaws cs (view_of m t) raws
  pub rows : (a : ℕ) → raws.has a ≡ true → in_regions a ≡ true → IsObjectIn (filled s) a (raw_size cs raws a)
  pub others : (a : ℕ) → raws.has a ≡ true → in_regions a ≡ false → IsBesideRegions a (raw_size cs raws a)

-- memory holds the objects, and the one at the address is of the regions
pub record IsYoungAt (cs : List Class) (v : View) (raws : Raws) (at : ℕ) : Type 0 where
  pub holds : HoldsRaws cs v raws
  pub has : raws.has at ≡ true
  pub inside : in_regions at ≡ true
  pub fits : raw_size cs raws at ≤ region_bytes

-- the object of the regions can be copied behind the others in use
pub record CanCopy (cs : List Class) (m : Memory) (t : ℕ) (s : Lists) (raws : Raws) (at : ℕ) : Type 0 where
  pub held : HoldsRegions cs m t s raws
  pub has : raws.has at ≡ true
  pub inside : in_regions at ≡ true
  pub room : length s.in_use + would_open s.in_use (raw_size cs raws at) + length s.from ≤ s.count
  pub spare : further_pages s.in_use (raw_size cs raws at) ≤ m.spare

-- all of these objects of the regions can be copied into regions of which none is in use yet
pub record CanCopyAll (cs : List Class) (m : Memory) (t : ℕ) (s : Lists) (raws : Raws) (ats : List Addr) : Type 0 where
  pub held : HoldsRegions cs m t s raws
  pub none_yet : s.in_use ≡ []
  pub has : (i : ℕ) → i < length ats → raws.has (at_of ats i) ≡ true
  pub inside : (i : ℕ) → i < length ats → in_regions (at_of ats i) ≡ true
  pub once : (i j : ℕ) → i < j → j < length ats → at_of ats i ≢ at_of ats j
  pub room : parts_for region_bytes (end_from 0 (sizes_at cs raws ats)) + length s.from ≤ s.count
  pub spare : packed_pages (sizes_at cs raws ats) ≤ m.spare

-- the objects of these sizes stand at these addresses: packed one behind the other in the rows
pub record PacksAt (rows : List Row) (sizes : List ℕ) (ats : List Addr) : Type 0 where
  pub pack : Pack rows sizes
  pub places : map (λ (a : Addr). a.0) ats ≡ map (address_in rows) (places_from 0 sizes)
  -- the pages of the rows are those in which they have bytes
  pub each : (p i : ℕ) → i < length ats → covers (at_of ats i) (slice_index_or sizes i 0) p ≡ true → list_any (holds_page p) rows ≡ true
  pub covered : (p : ℕ) → list_any (holds_page p) rows ≡ true → (i : ℕ) × (i < length ats) × (covers (at_of ats i) (slice_index_or sizes i 0) p ≡ true)

-- every page outside the region window, and of each other table, is as it was
pub record KeepsOutside (old new : Memory) (t : ℕ) : Type 0 where
  pub others : (u q : ℕ) → (u ≢ t) ⊎ (is_in Regions q ≡ false) → page_at new u q ≡ page_at old u q
  pub live : (u : ℕ) → is_live new u ≡ is_live old u
  pub reads : new.reads ≡ old.reads

-- the first k of the objects at some addresses have copies at others, and tell so, and all others are as they were
pub record AreMoved (raws now : Raws) (froms tos : List Addr) (k : ℕ) : Type 0 where
  pub has : (a : ℕ) → raws.has a ≡ true → now.has a ≡ true
  pub only : (a : ℕ) → now.has a ≡ true → (raws.has a ≡ true) ⊎ ((i : ℕ) × (i < k) × (at_of tos i ≡ a))
  pub same : (a : ℕ) → raws.has a ≡ true → ((i : ℕ) → i < k → at_of froms i ≢ a) → now.raw a ≡ raws.raw a
  pub fresh : (i : ℕ) → i < k → raws.has (at_of tos i) ≡ false
  pub has_copy : (i : ℕ) → i < k → now.has (at_of tos i) ≡ true
  pub copy : (i : ℕ) → i < k → now.raw (at_of tos i) ≡ raws.raw (at_of froms i)
  pub forwarded : (i : ℕ) → i < k → now.raw (at_of froms i) ≡ forwarded_raw (raws.raw (at_of froms i)) (at_of tos i)
