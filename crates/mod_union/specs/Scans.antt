-- What the steps of an update do. No public clause cites this module.
use Rattle.std.specs.Prelude.{◌≡◌, Some, ℕ, ◌+◌, ◌*◌, ◌^◌, ◌<◌, ◌≤◌, min, max, true, if◌then◌else◌, List, [], ◌∷◌, ◌++◌}
use Rattle.model_numbers.specs.Numbers.{card_bytes}
use Rattle.class_layout.specs.ClassList.{Class}
use Rattle.cow_pages.specs.Memory.{IsSound, Memory}
use Rattle.cow_pages.specs.View.{view_of}
use Rattle.heap_graph.specs.declared.names.Shape.{Shape}
use Rattle.large_objects.specs.declared.rows.LargeRow.{LargeRow}
use Rattle.object_view.specs.declared.names.Slot.{Slot}
use Rattle.class_layout.specs.declared.kind.FieldAt.{FieldAt}
use Rattle.object_view.specs.Objects.{reference_place}
use Rattle.object_view.specs.Seen.{RoseBy}
use Rattle.raw_objects.specs.Raws.{raw_size, Raws}
use Rattle.mod_union.specs.declared.scan.Scan.{Scan}
use Rattle.mod_union.specs.Lists.{ListsBelow}
use Rattle.mod_union.specs.ModUnion.{is_outside, slot_address, space_of, HoldsSpace, IsOutwardSlot, ImmuneSpace}

-- the space that is scanned
abbrev pub space_in : Scan → Memory → ImmuneSpace
space_in scan m = space_of scan.classes.now (view_of m scan.t.0) scan.starts.now scan.larges.now

-- the slots found are the outward slots with addresses below a bound
abbrev pub AreBelow : Scan → Raws → ℕ → List Slot → Type 0
AreBelow scan raws bound found = ListsBelow slot_address (IsOutwardSlot scan.classes.now raws scan.larges.now) bound found

-- no object has bytes on both sides of the address
abbrev pub IsEdge : List Class → Raws → ℕ → Type 0
IsEdge cs raws at = (a : ℕ) → raws.has a ≡ true → a < at → a + raw_size cs raws a ≤ at

-- an object of the shape is one of the space's
pub record IsObjectOf (space : ImmuneSpace) (raws : Raws) (at : ℕ) (shape : Shape) : Type 0 where
  pub held : HoldsSpace space raws
  pub has : raws.has at ≡ true
  pub shape_is : (raws.raw at).shape ≡ shape

-- where an object that begins at an address begins on the card, if it doesn't end before
abbrev pub begin_on : ℕ → ℕ → ℕ
begin_on card at = max (card_bytes * card) at

-- where on the card something ends that ends at an address
abbrev pub end_on : ℕ → ℕ → ℕ
end_on card end = max (card_bytes * card) (min (card_bytes * (card + 1)) end)

-- the slots found, with one that leads outside, if it does
abbrev pub with_outward : List LargeRow → List Slot → Slot → List Slot
with_outward rows found slot = if is_outside rows slot.target.0 then found ++ slot ∷ [] else found

-- nothing changed but the count of reads, which rose by at most so many
pub record Reads (most : ℕ) (old new : Memory) : Type 0 where
  pub same : new ≡ record old { reads = new.reads }
  pub rose : old.reads < 2 ^ 64 → RoseBy most old.reads new.reads
  pub fits : old.reads < 2 ^ 64 → new.reads < 2 ^ 64
  pub sound : IsSound old → IsSound new

-- the references of a shape before the index stand before the offset, and the others at it or behind it
pub record IsFirstFrom (cs : List Class) (shape : Shape) (offset first : ℕ) : Type 0 where
  pub before : (k : ℕ) (place : FieldAt) → k < first → reference_place cs shape k ≡ Some place → place.offset < offset
  pub behind : (k : ℕ) (place : FieldAt) → first ≤ k → reference_place cs shape k ≡ Some place → offset ≤ place.offset
  pub small : first ≤ offset
