-- A mod-union table: the cards of an immune space that hold a reference out of it.
use Rattle.std.specs.Prelude.{◌≡◌, ◌↔◌, ℕ, ◌+◌, ◌*◌, ◌/◌, ◌^◌, ◌<◌, Bool, true, false, ◌&&◌, ◌||◌, nat_eq, IsTrue, is_some, List, Option, Some, None, ℤ, pos}
use Rattle.std.specs.List.{list_any}
use Rattle.model_numbers.specs.Numbers.{card_bytes}
use Rattle.class_layout.specs.declared.kind.Kind.TheVariants.{Ref}
use Rattle.class_layout.specs.declared.kind.FieldAt.{FieldAt}
use Rattle.class_layout.specs.ClassList.{Class}
use Rattle.class_layout.specs.Placing.{IsIn}
use Rattle.page_tables.specs.declared.address.Window.TheVariants.{Large}
use Rattle.page_tables.specs.Address.{is_in, page_of}
use Rattle.cow_pages.specs.View.{View}
use Rattle.card_table.specs.CardSet.{card_of, is_dirty, CardSet, IsInSpan}
use Rattle.heap_graph.specs.Places.{places_of}
use Rattle.large_objects.specs.declared.rows.LargeRow.{LargeRow}
use Rattle.large_objects.specs.Rows.{row_at, waits}
use Rattle.mark_bitmap.specs.Marks.{is_marked, Marks}
use Rattle.object_view.specs.declared.names.Slot.{Slot}
use Rattle.raw_objects.specs.Raws.{raw_size, HoldsRaws, Raws}
use Rattle.raw_objects.specs.References.{in_regions}
use Rattle.mod_union.specs.Lists.{AreRising}

-- an immune space: the classes, a table as its addresses, where the space's objects begin, and the rows of large objects
pub record ImmuneSpace : Type 0 where
  pub classes : List Class
  pub view : View
  pub starts : Marks
  pub rows : List LargeRow

-- a space from its parts
abbrev pub space_of : List Class → View → Marks → List LargeRow → ImmuneSpace
space_of cs v starts rows = record { classes = cs; view = v; starts = starts; rows = rows }

-- a large object is there that isn't promoted
abbrev pub stays_out : Option LargeRow → Bool
stays_out None = false
stays_out (Some row) = waits row

-- no immune object stands at the address: it lies in the regions, or is that of a large object that isn't promoted
abbrev pub is_outside : List LargeRow → ℕ → Bool
is_outside rows at = in_regions at || (is_in Large (page_of at) && stays_out (row_at rows at))

-- a reference's value: 0 for null, or an address; one in the large window is that of a large object
pub record IsKnownTarget (rows : List LargeRow) (z : ℤ) : Type 0 where
  pub address : ℕ
  pub is : z ≡ pos address
  pub below : address < 2 ^ 32
  pub large : is_in Large (page_of address) ≡ true → IsTrue (is_some (row_at rows address))

-- these raw objects are those of the space: memory holds them, they begin at the members of the starts, and their
-- references lead to what is known
pub record HoldsSpace (space : ImmuneSpace) (raws : Raws) : Type 0 where
  pub holds : HoldsRaws space.classes space.view raws
  pub begins : (a : ℕ) → raws.has a ≡ is_marked space.starts a
  pub targets : (a : ℕ) (place : FieldAt) → raws.has a ≡ true → IsIn place (places_of space.classes (raws.raw a).shape) → place.kind ≡ Ref
      → IsKnownTarget space.rows ((raws.raw a).values place)

-- a reference of one of the objects that leads to an object outside
pub record IsOutwardSlot (cs : List Class) (raws : Raws) (rows : List LargeRow) (slot : Slot) : Type 0 where
  pub object : ℕ
  pub place : FieldAt
  pub has : raws.has object ≡ true
  pub is_in : IsIn place (places_of cs (raws.raw object).shape)
  pub kind_is : place.kind ≡ Ref
  pub at_is : slot.at.0 ≡ object + place.offset
  pub target_is : pos slot.target.0 ≡ (raws.raw object).values place
  pub weak_is : slot.weak ≡ place.weak
  pub outside : is_outside rows slot.target.0 ≡ true

-- the address of a slot
abbrev pub slot_address : Slot → ℕ
slot_address slot = slot.at.0

-- exactly the outward slots, each once, by rising address
pub record AreOutward (cs : List Class) (raws : Raws) (rows : List LargeRow) (found : List Slot) : Type 0 where
  pub rising : AreRising slot_address 0 found
  pub exact : (slot : Slot) → IsIn slot found ↔ IsOutwardSlot cs raws rows slot

-- the card is recorded
abbrev pub is_recorded : List ℕ → ℕ → Bool
is_recorded records card = list_any (nat_eq card) records

-- the card is dirty or recorded
abbrev pub is_noted : List ℕ → CardSet → ℕ → Bool
is_noted records cards card = is_dirty cards card || is_recorded records card

-- one of the slots lies on the card
abbrev pub has_slot_on : List Slot → ℕ → Bool
has_slot_on found card = list_any (λ (slot : Slot). nat_eq card (card_of slot.at.0)) found

-- the condition of an update: each object of the space lies in the span of the cards, and each outward slot lies on a
-- card that is dirty or recorded
pub record CanUpdate (space : ImmuneSpace) (records : List ℕ) (cards : CardSet) (raws : Raws) : Type 0 where
  pub held : HoldsSpace space raws
  pub spanned : (a i : ℕ) → raws.has a ≡ true → i < raw_size space.classes raws a → IsInSpan cards (a + i)
  pub noted : (slot : Slot) → IsOutwardSlot space.classes raws space.rows slot → is_noted records cards (card_of slot.at.0) ≡ true

-- an update makes at most four reads for each 4 bytes of a card
abbrev pub card_reads : ℕ
card_reads = 4 * (card_bytes / 4)
