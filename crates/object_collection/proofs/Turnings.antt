-- References of objects and slots that are turned one list after the other.
use Rattle.std.proofs.Common.{◌≡◌, ℕ, ◌<◌, Bool, true, List, length, refl, sym, subst, arith}
use Rattle.std.specs.Prelude.{IsTrue}
use Rattle.class_layout.specs.ClassList.{Class}
use Rattle.class_layout.specs.declared.kind.Kind.TheVariants.{Ref}
use Rattle.page_tables.specs.declared.address.Addr.{Addr}
use Rattle.page_tables.specs.Address.{page_of}
use Rattle.cow_pages.specs.Memory.{is_mapped, Memory}
use Rattle.cow_pages.specs.View.{view_of}
use Rattle.object_view.specs.declared.names.Slot.{Slot}
use Rattle.object_view.proofs.Laid.{place-within, size-bounds}
use Rattle.raw_objects.specs.Keeps.{Keeps}
use Rattle.raw_objects.specs.Raws.{raw_size, HoldsRaws, Raws}
use Rattle.raw_objects.specs.References.{turned_where, IsSlotIn}
use Rattle.raw_objects.proofs.Kept.{space-page}
use Rattle.raw_objects.proofs.Turned.{none-turned}
use Rattle.object_moves.specs.Copies.{at_of}
use Rattle.object_moves.specs.Turns.{slot_of, AreSlotsIn, ObjectsAlone}
use Rattle.object_collection.specs.Phases.{none_turned}

-- pages of objects keep their frames alone
pub objects-alone : (cs : List Class) (old new : Memory) (t : ℕ) (raws : Raws) (may : ℕ → Bool) (ats : List Addr) → HoldsRaws cs (view_of old t) raws
    → ((i : ℕ) → i < length ats → raws.has (at_of ats i) ≡ true) → Keeps old new t may → ObjectsAlone cs old t raws ats → ObjectsAlone cs new t raws ats
objects-alone cs old new t raws may ats holds has k alone i below p low high =
    let bounds = size-bounds cs (raws.raw (at_of ats i)).shape in
    let some : 0 < raw_size cs raws (at_of ats i) = omega (arith, bounds.0, bounds.1, bounds.2) in
    k.alone p (space-page old t (at_of ats i) (raw_size cs raws (at_of ats i)) p (holds.stands (at_of ats i) (has i below)).space some low high) (alone i below p low high)

-- so do pages of slots
slot-mapped : (cs : List Class) (m : Memory) (t at target : ℕ) (raws : Raws) → HoldsRaws cs (view_of m t) raws → IsSlotIn cs raws at target → IsTrue (is_mapped m t (page_of at))
slot-mapped cs m t at target raws holds it =
    let within = place-within cs (raws.raw it.object).shape Ref it.place.offset it.place (record { is_in = it.is_in; kind_is = it.kind_is; offset_is = refl }) in
    let there = (holds.stands it.object it.has).space.mapped it.place.offset (omega (arith, within.2)) in
    subst (λ (n : ℕ). IsTrue (is_mapped m t (page_of n))) (sym it.at_is) there

pub slots-alone : (cs : List Class) (old new : Memory) (t : ℕ) (raws : Raws) (may : ℕ → Bool) (slots : List Slot) → HoldsRaws cs (view_of old t) raws → Keeps old new t may
    → AreSlotsIn cs old t raws slots → AreSlotsIn cs new t raws slots
slots-alone cs old new t raws may slots holds k ok = record {
  each = ok.each;
  alone = λ i below. k.alone (page_of (slot_of slots i).at.0) (slot-mapped cs old t (slot_of slots i).at.0 (slot_of slots i).target.0 raws holds (ok.each i below)) (ok.alone i below);
}

pub none-first : (cs : List Class) (m : Memory) (t : ℕ) (raws : Raws) → HoldsRaws cs (view_of m t) raws → HoldsRaws cs (view_of m t) (turned_where raws none_turned)
none-first cs m t raws holds = none-turned cs (view_of m t) raws holds
