-- What is listed before a collection writes: the reached objects, the weak references, and the slots of moving objects.
use Rattle.std.specs.Prelude.{◌≡◌, ◌↔◌, ◌⊎◌, ℕ, ◌+◌, ◌<◌, Bool, true, IsTrue, List, nat_eq}
use Rattle.std.specs.List.{Contains, IsDistinct}
use Rattle.model_numbers.specs.Numbers.{large_slot_count}
use Rattle.class_layout.specs.declared.kind.FieldAt.{FieldAt}
use Rattle.class_layout.specs.declared.kind.Kind.TheVariants.{Ref}
use Rattle.class_layout.specs.Placing.{IsIn}
use Rattle.page_tables.specs.declared.address.Addr.{Addr}
use Rattle.bit_set.specs.Bits.{Bits, is_member}
use Rattle.cow_pages.specs.Memory.{Memory}
use Rattle.heap_graph.specs.Places.{places_of}
use Rattle.object_view.specs.declared.names.Slot.{Slot}
use Rattle.raw_objects.specs.Raws.{Raws}
use Rattle.raw_objects.specs.References.{in_regions}
use Rattle.large_objects.specs.Rows.{slot_base}
use Rattle.live_objects.specs.Live.{addresses, HasLarge, ListsYoung}
use Rattle.object_collection.specs.Collects.{CanCollect, HeapState, IsReached}

-- a collection can be made, and these are the reached objects that aren't immune
pub record KnowsLive (h : HeapState) (m : Memory) (t : ℕ) (raws : Raws) (young : List Addr) (large : Bits) : Type 0 where
  pub can : CanCollect h m t raws
  pub young_are : ListsYoung h.regions.in_use (IsReached h raws) young
  pub large_are : HasLarge (IsReached h raws) large

-- a weak reference of a reached object stands at the address
pub record IsWeakOf (h : HeapState) (raws : Raws) (b : ℕ) : Type 0 where
  pub object : ℕ
  pub place : FieldAt
  pub reached : IsReached h raws object
  pub is_in : IsIn place (places_of h.classes (raws.raw object).shape)
  pub kind_is : place.kind ≡ Ref
  pub weak_is : place.weak ≡ true
  pub at_is : b ≡ object + place.offset

-- one of the slots stands at the address, and is weak
pub record IsWeakSlot (slots : List Slot) (b : ℕ) : Type 0 where
  pub slot : Slot
  pub is_in : IsIn slot slots
  pub weak_is : slot.weak ≡ true
  pub at_is : slot.at.0 ≡ b

-- exactly the weak references of reached objects and the weak slots, each once
pub record AreWeak (h : HeapState) (raws : Raws) (weak : List ℕ) : Type 0 where
  pub only : (b : ℕ) → Contains weak b ↔ (IsWeakOf h raws b ⊎ IsWeakSlot h.slots b)
  pub once : IsDistinct nat_eq weak

-- the slot leads into the regions
abbrev pub leads_young : Slot → Bool
leads_young slot = in_regions slot.target.0

-- exactly the addresses of the slots in the set, each once
pub record AreSlotsOf (large : Bits) (ats : List Addr) : Type 0 where
  pub only : (a : ℕ) → Contains (addresses ats) a ↔ ((slot : ℕ) × (slot < large_slot_count) × IsTrue (is_member large slot) × (a ≡ slot_base slot))
  pub once : IsDistinct nat_eq (addresses ats)
