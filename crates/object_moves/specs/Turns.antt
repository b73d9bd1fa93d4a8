-- References of several objects that are turned to where their targets went.
use Rattle.std.specs.Prelude.{◌≡◌, ◌≢◌, ℕ, ◌+◌, ◌<◌, Bool, true, false, nat_eq, List, length, map, sum, slice_index_or}
use Rattle.std.specs.List.{list_any}
use Rattle.class_layout.specs.declared.kind.Kind.TheVariants.{Ref}
use Rattle.class_layout.specs.declared.kind.FieldAt.{FieldAt}
use Rattle.class_layout.specs.ClassList.{Class}
use Rattle.class_layout.specs.Placing.{IsIn}
use Rattle.page_tables.specs.declared.address.Addr.{Addr}
use Rattle.page_tables.specs.Address.{page_of}
use Rattle.cow_pages.specs.Memory.{Memory, HasOneSharer}
use Rattle.heap_graph.specs.Places.{places_of}
use Rattle.object_view.specs.declared.names.Slot.{Slot}
use Rattle.object_view.specs.Changes.{pages_in, AreAlone}
use Rattle.raw_objects.specs.Keeps.{Covers}
use Rattle.raw_objects.specs.Raws.{raw_size, Raws}
use Rattle.raw_objects.specs.References.{goes, in_regions, is_reference, IsSlotIn, IsTarget}
use Rattle.object_moves.specs.Copies.{at_of, sizes_at}

-- a reference of the object at the address stands at b
abbrev pub is_reference_at : List Class → Raws → ℕ → ℕ → Bool
is_reference_at cs raws b at = is_reference cs (raws.raw at).shape at b

-- a reference of one of the objects stands at b
abbrev pub is_reference_of : List Class → Raws → List Addr → ℕ → Bool
is_reference_of cs raws ats b = list_any (λ (a : Addr). is_reference_at cs raws b a.0) ats

-- these objects are there, each once, with what they refer to, and none of their references is turned yet
pub record AreTurnable (cs : List Class) (raws : Raws) (done : ℕ → Bool) (ats : List Addr) : Type 0 where
  pub has : (i : ℕ) → i < length ats → raws.has (at_of ats i) ≡ true
  pub once : (i j : ℕ) → i < j → j < length ats → at_of ats i ≢ at_of ats j
  pub targets : (i : ℕ) (p : FieldAt) → i < length ats → IsIn p (places_of cs (raws.raw (at_of ats i)).shape) → p.kind ≡ Ref → IsTarget raws ((raws.raw (at_of ats i)).values p)
  pub undone : (i : ℕ) (b : ℕ) → i < length ats → is_reference_at cs raws b (at_of ats i) ≡ true → done b ≡ false

-- each page of these objects has its frame alone
abbrev pub ObjectsAlone : List Class → Memory → ℕ → Raws → List Addr → Type 0
ObjectsAlone cs m t raws ats = (i : ℕ) → i < length ats → AreAlone m t (page_of (at_of ats i)) (pages_in (at_of ats i) (at_of ats i + raw_size cs raws (at_of ats i)))

-- each page of these objects passes the test
abbrev pub ObjectsWithin : List Class → (ℕ → Bool) → Raws → List Addr → Type 0
ObjectsWithin cs may raws ats = (i : ℕ) → i < length ats → Covers may (at_of ats i) (raw_size cs raws (at_of ats i))

-- at most so many reads turn these objects, wherever they stand: 4 for each 4 bytes of an object, and 16 more
abbrev pub reads_to_turn : List Class → Raws → List Addr → ℕ
reads_to_turn cs raws ats = sum (map (λ (size : ℕ). size + 16) (sizes_at cs raws ats))

-- the i-th of the slots
abbrev pub slot_of : List Slot → ℕ → Slot
slot_of slots i = slice_index_or slots i (record { at = record { 0 = 0 }; target = record { 0 = 0 }; weak = false })

-- one of the slots stands at b
abbrev pub is_slot_of : List Slot → ℕ → Bool
is_slot_of slots b = list_any (λ (s : Slot). nat_eq s.at.0 b) slots

-- each slot is that of a reference to its target, in one of the objects, in a page that has its frame alone
pub record AreSlotsIn (cs : List Class) (m : Memory) (t : ℕ) (raws : Raws) (slots : List Slot) : Type 0 where
  pub each : (i : ℕ) → i < length slots → IsSlotIn cs raws (slot_of slots i).at.0 (slot_of slots i).target.0
  pub alone : (i : ℕ) → i < length slots → HasOneSharer m t (page_of (slot_of slots i).at.0)

-- an address of where its object is now
abbrev pub gone_to : Raws → Addr → Addr
gone_to raws a = record { 0 = goes raws a.0 }

-- each of these addresses is 0 or another outside the regions, or that of an object
abbrev pub AreTargets : Raws → List Addr → Type 0
AreTargets raws ats = (i : ℕ) → i < length ats → in_regions (at_of ats i) ≡ true → raws.has (at_of ats i) ≡ true
