-- What a collection has listed, and what stands after each of its steps.
use Rattle.std.specs.Prelude.{◌≡◌, ◌≢◌, ◌⊎◌, ◌↔◌, ℕ, ◌+◌, ◌-◌, ◌/◌, ◌<◌, ◌≤◌, Bool, true, false, ◌&&◌, ◌||◌, not, List, [], filter, length, nat_eq, if◌then◌else◌}
use Rattle.std.specs.List.{list_any, Contains, IsDistinct}
use Rattle.model_numbers.specs.Numbers.{large_base, large_slot_bytes, large_slot_count, region_bytes}
use Rattle.bit_set.specs.Bits.{Bits, is_member, room}
use Rattle.class_layout.specs.ClassList.{Class}
use Rattle.page_tables.specs.declared.address.Addr.{Addr}
use Rattle.cow_pages.specs.Memory.{Memory, is_live, page_at}
use Rattle.cow_pages.specs.View.{view_of}
use Rattle.heap_graph.specs.Packing.{end_from}
use Rattle.heap_graph.specs.Sizes.{parts_for}
use Rattle.object_view.specs.declared.names.Slot.{Slot}
use Rattle.raw_objects.specs.Raws.{HoldsRaws, Raws}
use Rattle.raw_objects.specs.References.{goes, in_regions}
use Rattle.region_space.specs.Packed.{packed_pages}
use Rattle.region_space.specs.Space.{lists_of, Space}
use Rattle.large_objects.specs.declared.rows.LargeRow.{LargeRow}
use Rattle.large_objects.specs.Rows.{row_at, slot_base}
use Rattle.live_objects.specs.Live.{addresses, ListsYoung}
use Rattle.live_objects.specs.Reach.{in_large, waits_in}
use Rattle.object_moves.specs.Copies.{at_of, moved, sizes_at, AreMoved, HoldsRegions, PacksAt}
use Rattle.object_moves.specs.Turns.{is_reference_of, is_slot_of, AreSlotsIn, AreTargets, AreTurnable, ObjectsAlone}
use Rattle.object_collection.specs.declared.plan.Plan.{Plan}
use Rattle.object_collection.specs.Collects.{HeapState, IsReached}
use Rattle.object_collection.specs.Listed.{leads_young, AreWeak}

-- THE LISTS

-- the slot in which an address of the large window lies
abbrev pub slot_in : ℕ → ℕ
slot_in a = (a - large_base) / large_slot_bytes

-- what stands at the address stays, or lies in the regions: it is no large object whose slot isn't in the set
abbrev pub stays_in : Bits → ℕ → Bool
stays_in slots a = not (in_large a) || is_member slots (slot_in a)

-- the slots are those of the large objects that stay: the promoted ones, and the reached ones
pub record AreStaying (h : HeapState) (raws : Raws) (slots : Bits) : Type 0 where
  pub all : room slots ≡ large_slot_count
  pub test : (row : LargeRow) → Contains h.rows row → (is_member slots row.slot ≡ true) ↔ ((row.promoted ≡ true) ⊎ IsReached h raws (slot_base row.slot))

-- exactly the large objects that are reached, each once
pub record ListsLarge (h : HeapState) (raws : Raws) (ats : List Addr) : Type 0 where
  pub only : (a : ℕ) → Contains (addresses ats) a ↔ ((in_regions a ≡ false) × IsReached h raws a)
  pub once : IsDistinct nat_eq (addresses ats)

-- the lists of a plan
pub record Listed : Type 0 where
  pub young : List Addr
  pub large : List Addr
  pub stays : Bits
  pub weak : List Addr
  pub turned : List Slot

abbrev pub listed_in : Plan → Listed
listed_in plan = record { young = plan.young.items; large = plan.large.items; stays = plan.stays; weak = plan.weak.items; turned = plan.turned.items }

-- what is listed before the first write; the copies need no more regions than are in use, and as many frames are free as
-- they have pages
pub record IsPlan (h : HeapState) (m : Memory) (raws : Raws) (plan : Listed) : Type 0 where
  pub young : ListsYoung h.regions.in_use (IsReached h raws) plan.young
  pub large : ListsLarge h raws plan.large
  pub stays : AreStaying h raws plan.stays
  pub weak : AreWeak h raws (addresses plan.weak)
  pub turned : plan.turned ≡ filter leads_young h.slots
  pub once : (i j : ℕ) → i < j → j < length plan.young → at_of plan.young i ≢ at_of plan.young j
  pub few : length plan.young ≤ h.regions.objects
  pub room : parts_for region_bytes (end_from 0 (sizes_at h.classes raws plan.young)) ≤ length h.regions.in_use
  pub spare : packed_pages (sizes_at h.classes raws plan.young) ≤ m.spare

-- THE OBJECTS ARE COPIED

-- these objects of the regions can move into regions of which none is in use yet
pub record CanMove (cs : List Class) (m : Memory) (t : ℕ) (s : Space) (raws : Raws) (ats : List Addr) : Type 0 where
  pub held : HoldsRegions cs m t (lists_of s) raws
  pub no_from : s.from ≡ []
  pub has : (i : ℕ) → i < length ats → raws.has (at_of ats i) ≡ true
  pub inside : (i : ℕ) → i < length ats → in_regions (at_of ats i) ≡ true
  pub once : (i j : ℕ) → i < j → j < length ats → at_of ats i ≢ at_of ats j
  pub room : parts_for region_bytes (end_from 0 (sizes_at cs raws ats)) + length s.in_use ≤ s.count
  pub spare : packed_pages (sizes_at cs raws ats) ≤ m.spare

-- they have copies, packed one behind the other, and tell where these are
pub record HaveMoved (cs : List Class) (m : Memory) (t : ℕ) (s : Space) (raws : Raws) (froms tos : List Addr) : Type 0 where
  pub held : HoldsRegions cs m t (lists_of s) (moved raws froms tos (length froms))
  pub moves : AreMoved raws (moved raws froms tos (length froms)) froms tos (length froms)
  pub packed : PacksAt s.in_use (sizes_at cs raws froms) tos

-- THE REFERENCES ARE TURNED

-- the objects and the slots whose references are turned
pub record Turning : Type 0 where
  pub young : List Addr
  pub large : List Addr
  pub slots : List Slot

-- none is turned yet
abbrev pub none_turned : ℕ → Bool
none_turned b = false

-- those of the first objects are turned
abbrev pub young_turned : List Class → Raws → List Addr → ℕ → Bool
young_turned cs raws young b = is_reference_of cs raws young b || none_turned b

-- and those of the large ones
abbrev pub objects_turned : List Class → Raws → List Addr → List Addr → ℕ → Bool
objects_turned cs raws young large b = is_reference_of cs raws large b || young_turned cs raws young b

-- one of these references stands at b
abbrev pub is_turned : List Class → Raws → Turning → ℕ → Bool
is_turned cs raws it b = is_slot_of it.slots b || objects_turned cs raws it.young it.large b

-- all references of the objects, and the slots, can be turned, and what the roots hold
pub record CanTurn (cs : List Class) (m : Memory) (t : ℕ) (raws : Raws) (it : Turning) (roots : List Addr) : Type 0 where
  pub holds : HoldsRaws cs (view_of m t) raws
  pub young : AreTurnable cs raws none_turned it.young
  pub large : AreTurnable cs raws (young_turned cs raws it.young) it.large
  pub young_alone : ObjectsAlone cs m t raws it.young
  pub large_alone : ObjectsAlone cs m t raws it.large
  pub slots : AreSlotsIn cs m t raws it.slots
  pub targets : AreTargets raws roots

-- THE DEAD ARE DROPPED

-- a row stays that is promoted or whose object is listed
abbrev pub stays_by : List Addr → LargeRow → Bool
stays_by ats row = row.promoted || list_any (nat_eq (slot_base row.slot)) (addresses ats)

abbrev pub goes_by : List Addr → LargeRow → Bool
goes_by ats row = not (stays_by ats row)

-- a row whose object is listed is marked
abbrev pub marked_by : List Addr → LargeRow → LargeRow
marked_by ats row = record row { marked = row.marked || list_any (nat_eq (slot_base row.slot)) (addresses ats) }

-- some pages of the table may be gone, and every other page is as it was
pub record LosesPages (old new : Memory) (t : ℕ) (gone : ℕ → Bool) : Type 0 where
  pub others : (u q : ℕ) → (u ≢ t) ⊎ (gone q ≡ false) → page_at new u q ≡ page_at old u q
  pub live : (u : ℕ) → is_live new u ≡ is_live old u
  pub reads : new.reads ≡ old.reads

-- WHERE AN ADDRESS LEADS

-- the address is that of a large object that goes
abbrev pub is_lost : List LargeRow → Bits → ℕ → Bool
is_lost rows slots a = waits_in (row_at rows a) && not (is_member slots (slot_in a))

-- to none where a large object goes, to where an object of the regions went, and else to itself
abbrev pub leads_to : List LargeRow → Bits → Raws → ℕ → ℕ
leads_to rows slots moved a = if is_lost rows slots a then 0 else goes moved a
