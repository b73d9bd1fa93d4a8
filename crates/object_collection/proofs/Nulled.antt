-- After the weak references that lead to dead large objects were cleared.
use Rattle.std.proofs.Common.{◌≡◌, ◌∙◌, ℕ, ◌+◌, ◌%◌, inl, inr, true, List, [], ◌∷◌, All, get_or, nat_eq, refl, sym, ap, subst, arith}
use Rattle.std.specs.Prelude.{IsTrue}
use Rattle.std.specs.List.{list_any, Contains}
use Rattle.std.proofs.lemmas.Bool.{eq-eqb, eqb-true}
use Rattle.std.proofs.lemmas.List.{get_or_default}
use Rattle.class_layout.specs.declared.kind.Kind.TheVariants.{Ref}
use Rattle.class_layout.specs.declared.kind.FieldAt.{FieldAt}
use Rattle.class_layout.specs.ClassList.{Class}
use Rattle.class_layout.specs.Placing.{IsIn}
use Rattle.page_tables.specs.Address.{page_of}
use Rattle.cow_pages.specs.Memory.{HasOneSharer, Memory}
use Rattle.cow_pages.specs.View.{view_of}
use Rattle.heap_graph.specs.Places.{places_of}
use Rattle.object_view.specs.declared.names.Slot.{Slot}
use Rattle.object_view.proofs.Laid.{place-within}
use Rattle.raw_objects.specs.Raws.{Raws}
use Rattle.live_objects.specs.Live.{addresses}
use Rattle.live_objects.proofs.YoungLemmas.{in-first, in-rest}
use Rattle.weak_refs.specs.Weak.{dead_in, is_page_of, AreSlots}
use Rattle.graph_pages.specs.Cleared.{nulled}
use Rattle.object_collection.specs.Collects.{may_change, CanCollect, HeapState}
use Rattle.object_collection.specs.Phases.{stays_in, IsPlan, Listed}
use Rattle.object_collection.proofs.Facts.{any-at, any-of, free-may, may-slot, mortal-page, reached-has, reference-within}

pub all-of : {X : Type 0} (P : X → Type 0) (xs : List X) → ((x : X) → Contains xs x → P x) → All P xs
all-of P xs f k d below = f (get_or xs k d) (k, below, get_or_default xs k (get_or xs k d) d below)

-- a slot of a list stands in it
pub slot-in : (slots : List Slot) (slot : Slot) → IsIn slot slots → Contains slots slot
slot-in [] slot there = absurd there
slot-in (x ∷ slots) slot (inl same) = subst (λ (s : Slot). Contains (x ∷ slots) s) same (in-first x slots)
slot-in (x ∷ slots) slot (inr there) = in-rest x slots slot (slot-in slots slot there)

module _ (h : HeapState) (m : Memory) (t : ℕ) (raws : Raws) (plan : Listed) (can : CanCollect h m t raws) (ok : IsPlan h m raws plan) where
  abbrev pub cs : List Class
  cs = h.classes

  abbrev pub weak : List ℕ
  weak = addresses plan.weak

  abbrev pub dead : List ℕ
  dead = dead_in (stays_in plan.stays) (view_of m t) weak

  -- the objects, with null in the references that were cleared
  abbrev pub null : Raws
  null = nulled raws dead

  -- a reference of an object stands at the address
  pub record IsReferenceAt (b : ℕ) : Type 0 where
    pub object : ℕ
    pub place : FieldAt
    pub has : raws.has object ≡ true
    pub is_in : IsIn place (places_of cs (raws.raw object).shape)
    pub kind_is : place.kind ≡ Ref
    pub at_is : b ≡ object + place.offset

  pub weak-reference : (b : ℕ) → Contains weak b → IsReferenceAt b
  weak-reference b c = elim ((ok.weak.only b).0 c) [
    | inl it ↦ record { object = it.object; place = it.place; has = (reached-has h m t raws can it.object it.reached).0; is_in = it.is_in; kind_is = it.kind_is; at_is = it.at_is }
    | inr it ↦
        let out = (can.slots.exact it.slot).0 it.is_in in
        record { object = out.object; place = out.place; has = out.has; is_in = out.is_in; kind_is = out.kind_is; at_is = sym it.at_is ∙ out.at_is }
  ]

  pub weak-slots : AreSlots (view_of m t) weak
  weak-slots = record {
    aligned = all-of (λ at. at % 4 ≡ 0) weak (λ b c.
        let it = weak-reference b c in
        let within = place-within cs (raws.raw it.object).shape Ref it.place.offset it.place (record { is_in = it.is_in; kind_is = it.kind_is; offset_is = refl }) in
        let at = it.at_is in
        let object = (can.held.holds.stands it.object it.has).aligned in
        omega (arith, at, within.1, object));
    mapped = all-of (λ at. IsTrue ((view_of m t).mapped at)) weak (λ b c.
        let it = weak-reference b c in
        let within = reference-within h m t raws can it.object it.place it.is_in it.kind_is in
        subst (λ (n : ℕ). IsTrue ((view_of m t).mapped n)) (sym it.at_is) ((can.held.holds.stands it.object it.has).space.mapped it.place.offset (omega (arith, within.1))));
    once = ok.weak.once;
  }

  -- the pages of weak references
  pub weak-page : (b : ℕ) → Contains weak b → HasOneSharer m t (page_of b) × (may_change h (page_of b) ≡ true)
  weak-page b c = elim ((ok.weak.only b).0 c) [
    | inl it ↦
        let node = reached-has h m t raws can it.object it.reached in
        let within = reference-within h m t raws can it.object it.place it.is_in it.kind_is in
        let free = mortal-page h m t raws can it.object it.place.offset node.0 node.1 (omega (arith, within.1)) in
        (subst (λ (n : ℕ). HasOneSharer m t (page_of n)) (sym it.at_is) free.alone, ap (λ (n : ℕ). may_change h (page_of n)) it.at_is ∙ free-may h m t raws can (page_of (it.object + it.place.offset)) free)
    | inr it ↦
        let p : ℕ = page_of it.slot.at.0 in
        let any : list_any (λ (slot : Slot). nat_eq (page_of slot.at.0) p) h.slots ≡ true = any-of (λ (slot : Slot). nat_eq (page_of slot.at.0) p) h.slots it.slot (slot-in h.slots it.slot it.is_in) (eq-eqb p p refl) in (
          subst (λ (n : ℕ). HasOneSharer m t (page_of n)) it.at_is (can.slots.alone it.slot it.is_in),
          ap (λ (n : ℕ). may_change h (page_of n)) (sym it.at_is) ∙ may-slot h m t raws can p any,
        )
  ]

  pub weak-alone : (p : ℕ) → is_page_of weak p ≡ true → HasOneSharer m t p
  weak-alone p is =
      let it = any-at (λ (at : ℕ). nat_eq (page_of at) p) weak is in
      subst (λ (q : ℕ). HasOneSharer m t q) (eqb-true (page_of it.0) p it.2) (weak-page it.0 it.1).0
