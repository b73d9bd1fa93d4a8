-- A collection of objects in memory: what it is given, what it keeps, and where that is afterwards.
use Rattle.std.specs.Prelude.{◌≡◌, ◌≢◌, ◌↔◌, ◌⊎◌, ℕ, ◌+◌, ◌*◌, ◌<◌, ◌≤◌, ◌||◌, Bool, true, false, IsTrue, All, List, [], filter, length, map, is_some, nat_eq, pos}
use Rattle.std.specs.List.{list_any, Contains, IsDistinct}
use Rattle.class_layout.specs.declared.kind.FieldAt.{FieldAt}
use Rattle.class_layout.specs.declared.kind.Kind.TheVariants.{Ref}
use Rattle.class_layout.specs.ClassList.{Class}
use Rattle.class_layout.specs.Kinds.{next_multiple}
use Rattle.class_layout.specs.Placing.{IsIn}
use Rattle.page_tables.specs.declared.address.Addr.{Addr}
use Rattle.page_tables.specs.declared.address.Window.TheVariants.{Regions}
use Rattle.page_tables.specs.Address.{is_in, page_of}
use Rattle.cow_pages.specs.Memory.{frame_at, is_live, is_mapped, is_written, page_at, HasOneSharer, Memory}
use Rattle.graph_pages.specs.Collected.{turned_by}
use Rattle.heap_graph.specs.Places.{places_of}
use Rattle.object_view.specs.declared.names.Slot.{Slot}
use Rattle.raw_objects.specs.Raws.{raw_size, Raw, Raws, SameRaw}
use Rattle.raw_objects.specs.References.{in_regions, now_at}
use Rattle.region_space.specs.Space.{lists_of, Space}
use Rattle.large_objects.specs.declared.rows.LargeRow.{LargeRow}
use Rattle.large_objects.specs.Rows.{row_at, slot_base, waits, AreRows}
use Rattle.large_objects.specs.Pages.{holds_page, AreAlone, HasPages}
use Rattle.live_objects.specs.Live.{addresses, ListsYoung}
use Rattle.live_objects.specs.Reach.{in_large, is_mortal, starts_of, IsFound, IsHeld, Reached}
use Rattle.object_moves.specs.Copies.{at_of, sizes_at, HoldsRegions, PacksAt}

-- what a process knows of its heap besides the pages: its classes, its regions, the rows of its large objects, what its
-- roots hold, and the references of immune objects that lead to objects which aren't immune
pub record HeapState : Type 0 where
  pub classes : List Class
  pub regions : Space
  pub rows : List LargeRow
  pub roots : List Addr
  pub slots : List Slot

abbrev pub state_of : List Class → Space → List LargeRow → List Addr → List Slot → HeapState
state_of cs regions rows roots slots = record { classes = cs; regions = regions; rows = rows; roots = roots; slots = slots }

-- the object at the address is reached from the roots and the slots
abbrev pub IsReached : HeapState → Raws → ℕ → Type 0
IsReached h raws a = Reached h.classes h.rows raws (starts_of h.roots h.slots) a

-- a reference of an immune object that leads to an object which isn't immune
pub record LeadsOut (h : HeapState) (raws : Raws) (slot : Slot) : Type 0 where
  pub object : ℕ
  pub place : FieldAt
  pub has : raws.has object ≡ true
  pub immune : is_mortal h.rows object ≡ false
  pub is_in : IsIn place (places_of h.classes (raws.raw object).shape)
  pub kind_is : place.kind ≡ Ref
  pub at_is : slot.at.0 ≡ object + place.offset
  pub target_is : pos slot.target.0 ≡ (raws.raw object).values place
  pub weak_is : slot.weak ≡ place.weak
  pub outside : is_mortal h.rows slot.target.0 ≡ true

-- the slots are exactly those, each once, on pages that have their frames alone
pub record AreSlotsOut (h : HeapState) (m : Memory) (t : ℕ) (raws : Raws) : Type 0 where
  pub exact : (slot : Slot) → IsIn slot h.slots ↔ LeadsOut h raws slot
  pub once : IsDistinct nat_eq (map (λ (slot : Slot). slot.at.0) h.slots)
  pub alone : (slot : Slot) → IsIn slot h.slots → HasOneSharer m t (page_of slot.at.0)

-- the objects of the regions stand at these addresses, packed one behind the other in the regions in use, and are counted
pub record AreYoung (h : HeapState) (raws : Raws) (young : List Addr) : Type 0 where
  pub packed : PacksAt h.regions.in_use (sizes_at h.classes raws young) young
  pub only : (a : ℕ) → Contains (addresses young) a ↔ ((raws.has a ≡ true) × (in_regions a ≡ true))
  pub count : h.regions.objects ≡ length young
  pub no_from : h.regions.from ≡ []
  -- at most half of the regions are in use
  pub half : 2 * length h.regions.in_use ≤ h.regions.count

-- the objects in the large window are those of the rows, each in its slot and with its bytes; no row is marked, and the
-- pages of those that aren't promoted have their frames alone
pub record AreLarge (h : HeapState) (m : Memory) (t : ℕ) (raws : Raws) : Type 0 where
  pub rows : AreRows h.rows
  pub pages : HasPages m t h.rows
  pub unmarked : All (λ (row : LargeRow). row.marked ≡ false) h.rows
  pub alone : AreAlone m t (filter waits h.rows)
  pub has : (row : LargeRow) → Contains h.rows row → (raws.has (slot_base row.slot) ≡ true) × (raw_size h.classes raws (slot_base row.slot) ≡ next_multiple 8 row.bytes)
  pub only : (a : ℕ) → raws.has a ≡ true → in_large a ≡ true → IsTrue (is_some (row_at h.rows a))

-- what a collection stands on: memory holds the objects, those of the regions and of the large window are the ones that the
-- process knows of, no object of the regions tells that it moved, and each root and reference holds null or an object
pub record CanCollect (h : HeapState) (m : Memory) (t : ℕ) (raws : Raws) : Type 0 where
  pub held : HoldsRegions h.classes m t (lists_of h.regions) raws
  pub young : (ats : List Addr) × AreYoung h raws ats
  pub unmoved : (a : ℕ) → raws.has a ≡ true → in_regions a ≡ true → now_at (raws.raw a).header ≡ 0
  pub large : AreLarge h m t raws
  pub slots : AreSlotsOut h m t raws
  pub roots : (a : ℕ) → Contains (addresses h.roots) a → IsFound raws a
  pub targets : (a : ℕ) (p : FieldAt) → raws.has a ≡ true → IsIn p (places_of h.classes (raws.raw a).shape) → p.kind ≡ Ref → IsHeld raws ((raws.raw a).values p)

-- an object is kept that is immune or reached
pub record IsKept (h : HeapState) (raws : Raws) (a : ℕ) : Type 0 where
  pub has : raws.has a ≡ true
  pub stays : (is_mortal h.rows a ≡ false) ⊎ IsReached h raws a

-- where an address leads after a collection that moved the reached objects of the regions from some addresses to others:
-- to where its object went, to itself where that stays, and to none where it isn't kept
pub record Leads (h : HeapState) (raws : Raws) (young moved : List Addr) (go : ℕ → ℕ) : Type 0 where
  pub listed : ListsYoung h.regions.in_use (IsReached h raws) young
  pub length_is : length moved ≡ length young
  pub moves : (i : ℕ) → i < length young → go (at_of young i) ≡ at_of moved i
  pub stays : (a : ℕ) → is_mortal h.rows a ≡ false → go a ≡ a
  pub large : (a : ℕ) → in_regions a ≡ false → IsReached h raws a → go a ≡ a
  pub dead : (a : ℕ) → raws.has a ≡ true → is_mortal h.rows a ≡ true → (IsReached h raws a → ⊥) → go a ≡ 0

-- an object with its references turned to where they lead
abbrev pub led : (ℕ → ℕ) → Raw → Raw
led go r = record r { values = λ p. turned_by go p (r.values p) }

-- exactly the kept objects are left, each where it leads, with its references turned
pub record AreLeft (h : HeapState) (raws now : Raws) (go : ℕ → ℕ) : Type 0 where
  pub has : (b : ℕ) → (now.has b ≡ true) ↔ ((a : ℕ) × IsKept h raws a × (go a ≡ b))
  pub same : (a : ℕ) → IsKept h raws a → SameRaw h.classes (led go (raws.raw a)) (now.raw (go a))

-- the rows that are left: the promoted ones, and those whose objects are reached
pub record AreRowsLeft (h : HeapState) (raws : Raws) (rows : List LargeRow) : Type 0 where
  pub stays : LargeRow → Bool
  pub test : (row : LargeRow) → Contains h.rows row → (stays row ≡ true) ↔ ((row.promoted ≡ true) ⊎ IsReached h raws (slot_base row.slot))
  pub rows_are : rows ≡ filter stays h.rows

-- a page that a collection may write or unmap: of the regions, of a large object that isn't promoted, or of a slot
abbrev pub may_change : HeapState → ℕ → Bool
may_change h p = is_in Regions p || list_any (holds_page p) (filter waits h.rows) || list_any (λ (slot : Slot). nat_eq (page_of slot.at.0) p) h.slots

-- every other page is as it was, with its frame; a mapped one that may change has its frame alone
pub record LeavesPages (h : HeapState) (old new : Memory) (t : ℕ) : Type 0 where
  pub others : (u q : ℕ) → (u ≢ t) ⊎ (may_change h q ≡ false) → page_at new u q ≡ page_at old u q
  pub live : (u : ℕ) → is_live new u ≡ is_live old u
  pub alone : (q : ℕ) → may_change h q ≡ true → IsTrue (is_mapped new t q) → HasOneSharer new t q
  pub mapped : (q : ℕ) → is_in Regions q ≡ false → list_any (holds_page q) (filter waits h.rows) ≡ false → is_mapped new t q ≡ is_mapped old t q
  -- outside the regions, a flag that is set stays set
  pub written : (q : ℕ) → is_in Regions q ≡ false → IsTrue (is_mapped new t q) → IsTrue (is_written old t q) → IsTrue (is_written new t q)
  -- outside the regions, every page that is mapped afterwards has its old frame
  pub frames : (q : ℕ) → is_in Regions q ≡ false → IsTrue (is_mapped new t q) → frame_at new t q ≡ frame_at old t q

-- what a collection leaves: the kept objects, those of the regions packed anew, in the order in which they stood
pub record IsCollected (h : HeapState) (m : Memory) (t : ℕ) (raws : Raws) (regions : Space) (rows : List LargeRow) (roots : List Addr) : Type 0 where
  pub go : ℕ → ℕ
  pub young : List Addr
  pub moved : List Addr
  pub now : Raws
  pub leads : Leads h raws young moved go
  pub left : AreLeft h raws now go
  pub held : HoldsRegions h.classes m t (lists_of regions) now
  pub packed : PacksAt regions.in_use (sizes_at h.classes raws young) moved
  pub fewer : length regions.in_use ≤ length h.regions.in_use
  pub objects : regions.objects ≡ length moved
  pub no_from : (regions.from ≡ []) × (regions.from_objects ≡ 0)
  pub count : regions.count ≡ h.regions.count
  pub rows_left : AreRowsLeft h raws rows
  pub large_pages : HasPages m t rows
  pub roots_lead : addresses roots ≡ map go (addresses h.roots)
