-- An object's shape and size, and the objects of a card one after the other.
use Rattle.std.proofs.Common.{◌≡◌, ◌∙◌, ℕ, ◌+◌, ◌*◌, ◌-◌, ◌/◌, ◌%◌, ◌<◌, ◌≤◌, true, List, sym, ap, arith}
use Rattle.std.proofs.lemmas.Bool.{true≢false}
use Rattle.model_numbers.specs.Numbers.{card_bytes}
use Rattle.cow_pages.specs.Memory.{Memory}
use Rattle.cow_pages.specs.View.{view_of}
use Rattle.heap_graph.specs.declared.names.Shape.{Shape}
use Rattle.heap_graph.specs.Sizes.{size_in}
use Rattle.mark_bitmap.specs.Marks.{is_marked}
use Rattle.mark_bitmap.specs.Tests.{IsLeastFrom}
use Rattle.object_view.specs.declared.names.Slot.{Slot}
use Rattle.object_view.specs.Objects.{HasShape}
use Rattle.object_view.proofs.Laid.{size-bounds}
use Rattle.object_view.proofs.Standing.{HasShape-stands}
use Rattle.raw_objects.specs.Raws.{raw_size, Raw, Raws}
use Rattle.mod_union.specs.declared.scan.Scan.{Scan}
use Rattle.mod_union.specs.Lists.{ListsBelow}
use Rattle.mod_union.specs.ModUnion.{slot_address, HoldsSpace, IsOutwardSlot, ImmuneSpace}
use Rattle.mod_union.specs.Scans.{begin_on, end_on, space_in, IsEdge, IsObjectOf, Reads}
use Rattle.mod_union.proofs.Lists.{lists-wider}
use Rattle.mod_union.proofs.Reached.{held-still}
use Rattle.mod_union.proofs.Slots.{none-in}

-- an object has a shape in memory
pub object-shape : (space : ImmuneSpace) (raws : Raws) (at : ℕ) → HoldsSpace space raws → raws.has at ≡ true → HasShape space.view at (raws.raw at).shape
object-shape space raws at held has = let r : Raw = raws.raw at in HasShape-stands space.classes space.view at r.shape r.header r.values (held.holds.stands at has)

-- which is the one that was read
pub object-seen : (scan : Scan) (old mid : Memory) (raws : Raws) (at : ℕ) (shape : Shape) → HoldsSpace (space_in scan old) raws → raws.has at ≡ true
    → ((other : Shape) → HasShape (view_of old scan.t.0) at other → shape ≡ other) → Reads 2 old mid → IsObjectOf (space_in scan mid) raws at shape
object-seen scan old mid raws at shape held has only reads = record {
  held = held-still scan old mid 2 raws reads held;
  has = has;
  shape_is = sym (only (raws.raw at).shape (object-shape (space_in scan old) raws at held has));
}

-- and it has that shape's size
pub object-size : (scan : Scan) (old : Memory) (raws : Raws) (at size : ℕ) (shape : Shape) → HoldsSpace (space_in scan old) raws → raws.has at ≡ true
    → ((other : Shape) → HasShape (view_of old scan.t.0) at other → shape ≡ other) → size ≡ size_in scan.classes.now shape → size ≡ raw_size scan.classes.now raws at
object-size scan old raws at size shape held has only is = is ∙ ap (size_in scan.classes.now) (only (raws.raw at).shape (object-shape (space_in scan old) raws at held has))

module _ (space : ImmuneSpace) (raws : Raws) (h : HoldsSpace space raws) where
  abbrev IsOutward : Slot → Type 0
  IsOutward s = IsOutwardSlot space.classes raws space.rows s

  -- an object has 8 bytes or more, at a multiple of 8
  pub object-bounds : (at : ℕ) → raws.has at ≡ true → (8 ≤ raw_size space.classes raws at) × (at % 8 ≡ 0)
  object-bounds at has = let some = size-bounds space.classes (raws.raw at).shape in (omega (arith, some.0, some.1, some.2), (h.holds.stands at has).aligned)

  -- no outward slot stands between an edge and an address before which no object begins
  pub scan-wider : (card next to : ℕ) (found : List Slot) → card_bytes * card ≤ next → next < card_bytes * (card + 1) → next ≤ to → IsEdge space.classes raws next
      → ((a : ℕ) → next ≤ a → a < to → is_marked space.starts a ≡ true → ⊥) → ListsBelow slot_address IsOutward (end_on card next) found → ListsBelow slot_address IsOutward to found
  scan-wider card next to found behind on le edge none before =
      let here : end_on card next ≡ next = omega arith in
      lists-wider slot_address IsOutward (end_on card next) to found before (omega (arith, here, le))
      (λ s o low high. none-in space raws h next to edge (λ a has from less. none a from less (sym (h.begins a) ∙ has)) s o (omega (arith, low, here)) high)

  -- none begins before the least
  pub none-before : (next at : ℕ) → IsLeastFrom (is_marked space.starts) next at → (a : ℕ) → next ≤ a → a < at → is_marked space.starts a ≡ true → ⊥
  none-before next at least a low high is = true≢false (sym is ∙ least.least a low high)

-- what the reads of an object's scan add up to
pub few-reads : (card first next at size : ℕ) → card_bytes * card ≤ first → first ≤ next → next ≤ at → at < card_bytes * (card + 1) → 8 ≤ size → at % 8 ≡ 0
    → (end_on card next - first) / 2 + (2 + (end_on card (at + size) - begin_on card at) / 4) ≤ (end_on card (at + size) - first) / 2
few-reads card first next at size begin low le on some aligned =
    let start : end_on card next ≡ next = omega arith in
    let here : begin_on card at ≡ at = omega arith in
    let end : at + 8 ≤ end_on card (at + size) = omega arith in
    omega (arith, start, here, end, low, le)

pub few-on-card : (card first end : ℕ) → card_bytes * card ≤ first → (end_on card end - first) / 2 ≤ (card_bytes * (card + 1) - first) / 2
few-on-card card first end low = omega arith
