-- References that were cleared, as null in raw objects.
use Rattle.std.proofs.Common.{◌≡◌, ◌∙◌, ℕ, ◌+◌, true, cond, List, [], ◌∷◌, refl, sym, ap, subst, inl, inr, arith, ℤ, pos}
use Rattle.std.specs.Prelude.{nat_eq, ◌||◌}
use Rattle.std.specs.List.{list_any, All}
use Rattle.std.proofs.lemmas.Bool.{cases_eq, cases_order, eq-eqb, ne_eqb}
use Rattle.std.proofs.lemmas.List.Elements.{All-head, All-tail}
use Rattle.class_layout.specs.declared.kind.Kind.TheVariants.{Ref}
use Rattle.class_layout.specs.ClassList.{Class}
use Rattle.cow_pages.specs.Memory.{Memory}
use Rattle.cow_pages.specs.View.{view_of, View}
use Rattle.heap_graph.proofs.Places.{bytes-low}
use Rattle.object_view.specs.Changes.{PutsNumber}
use Rattle.object_view.specs.Values.{number_of}
use Rattle.object_view.proofs.Laid.{place-within}
use Rattle.raw_objects.specs.Raws.{stored, stored_raw, HoldsRaws, Raw, Raws, SameRaw, SameRaws}
use Rattle.raw_objects.specs.References.{IsSlotIn}
use Rattle.raw_objects.proofs.Raws.{at-here, at-other, raws-same, raws-seen, raws-stored}
use Rattle.raw_objects.proofs.Turned.{slot-place}
use Rattle.weak_refs.specs.Weak.{cleared, is_byte_of, ClearsSlots}
use Rattle.weak_refs.proofs.Slots.{in-slot, out-of-slot, u32-zero}
use Rattle.graph_pages.specs.Cleared.{nulled}

module _ (cs : List Class) (v : View) (raws : Raws) (at target : ℕ) (rest : List ℕ) (h : HoldsRaws cs v (nulled raws rest)) (it : IsSlotIn cs raws at target) where
  abbrev now : Raws
  now = nulled raws rest

  abbrev next : Raws
  next = nulled raws (at ∷ rest)

  -- the slot's own object
  null-here : SameRaw cs (stored_raw (now.raw it.object) it.place.offset (pos 0)) (next.raw it.object)
  null-here = record {
    shape = refl;
    header = refl;
    values = λ p there.
        let b : ℕ = it.object + p.offset in
        let old : ℤ = (raws.raw it.object).values p in
        elim (cases_eq p.offset it.place.offset) [
          | inl same ↦
              ap (λ d. cond (d || list_any (λ slot. nat_eq slot b) rest) (pos 0) old) (eq-eqb at b (omega (arith, it.at_is, same)))
              ∙ sym (ap (λ d. cond d (pos 0) ((now.raw it.object).values p)) (eq-eqb p.offset it.place.offset same))
          | inr ne ↦
              ap (λ d. cond (d || list_any (λ slot. nat_eq slot b) rest) (pos 0) old) (ne_eqb at b (λ e. ne (omega (arith, it.at_is, e))))
              ∙ sym (ap (λ d. cond d (pos 0) ((now.raw it.object).values p)) (ne_eqb p.offset it.place.offset ne))
        ];
  }

  -- the others
  null-beside : (a : ℕ) → raws.has a ≡ true → (a ≡ it.object → ⊥) → SameRaw cs (now.raw a) (next.raw a)
  null-beside a is ne =
      let within = place-within cs (raws.raw it.object).shape Ref it.place.offset it.place (slot-place cs raws at target it) in
      record {
        shape = refl;
        header = refl;
        values = λ p there.
            let b : ℕ = a + p.offset in
            let mine = place-within cs (raws.raw a).shape p.kind p.offset p (record { is_in = there; kind_is = refl; offset_is = refl }) in
            let off : at ≡ b → ⊥ = λ e. elim (cases_order a it.object) [
              | inl same ↦ ne same
              | inr o ↦ elim o [
                | inl low ↦ let beside = h.apart a it.object is it.has low in omega (arith, beside, e, it.at_is, mine.2, bytes-low p.kind)
                | inr high ↦ let beside = h.apart it.object a it.has is high in omega (arith, beside, e, it.at_is, within.2)
              ]
            ] in
            ap (λ d. cond (d || list_any (λ slot. nat_eq slot b) rest) (pos 0) ((raws.raw a).values p)) (ne_eqb at b off);
      }

  -- one reference more is null
  null-more : SameRaws cs (stored now it.object it.place.offset (pos 0)) next
  null-more =
      let x : Raw = stored_raw (now.raw it.object) it.place.offset (pos 0) in
      record {
        has = λ a. refl;
        raw = λ a is. elim (cases_eq a it.object) [
          | inl e ↦ at-here x (now.raw a) a it.object (λ r. SameRaw cs r (next.raw a)) e (subst (λ b. SameRaw cs x (next.raw b)) (sym e) null-here)
          | inr ne ↦ at-other x (now.raw a) a it.object (λ r. SameRaw cs r (next.raw a)) ne (null-beside a is ne)
        ];
      }

  null-held : (w : View) → PutsNumber v w Ref at (number_of Ref (pos 0)) → HoldsRaws cs w (nulled raws (at ∷ rest))
  null-held w puts =
      raws-same cs w (stored now it.object it.place.offset (pos 0)) next
      (raws-stored cs v w now h it.object Ref it.place.offset it.place (pos 0) it.has (slot-place cs raws at target it)
      (subst (λ b. PutsNumber v w Ref b (number_of Ref (pos 0))) it.at_is puts)) null-more

-- one slot more is cleared
null-put : (v : View) (at : ℕ) (rest : List ℕ) → PutsNumber (cleared rest v) (cleared (at ∷ rest) v) Ref at (number_of Ref (pos 0))
null-put v at rest = record {
  there = u32-zero (cleared (at ∷ rest) v) at (λ i small. ap (λ d. cond (d || is_byte_of rest (at + i)) 0 (v.byte (at + i))) (in-slot at (at + i) (omega arith) (omega arith)));
  rest = record {
    others = λ b off. ap (λ d. cond (d || is_byte_of rest b) 0 (v.byte b)) (out-of-slot at b off);
    mapped = λ b. refl;
  };
}

-- the objects of a view are held with null in its cleared slots
nulls-held : (cs : List Class) (v : View) (raws : Raws) (slots : List ℕ) → HoldsRaws cs v raws → All (λ at. (n : ℕ) × IsSlotIn cs raws at n) slots → HoldsRaws cs (cleared slots v) (nulled raws slots)
nulls-held cs v raws [] h all =
    raws-same cs (cleared [] v) raws (nulled raws []) (raws-seen cs v (cleared [] v) raws h (record { byte = λ b. refl; mapped = λ b. refl }))
    (record { has = λ a. refl; raw = λ a is. record { shape = refl; header = refl; values = λ p there. refl } })
nulls-held cs v raws (at ∷ rest) h all =
    let one = All-head (λ a. (n : ℕ) × IsSlotIn cs raws a n) at rest all in
    null-held cs (cleared rest v) raws at one.0 rest (nulls-held cs v raws rest h (All-tail (λ a. (n : ℕ) × IsSlotIn cs raws a n) at rest all)) one.1 (cleared (at ∷ rest) v) (null-put v at rest)

-- memory holds the objects with null in the slots that were cleared
pub cleared-held : (cs : List Class) (old new : Memory) (t : ℕ) (slots : List ℕ) (raws : Raws) → HoldsRaws cs (view_of old t) raws → All (λ at. (n : ℕ) × IsSlotIn cs raws at n) slots
    → ClearsSlots old new t slots → HoldsRaws cs (view_of new t) (nulled raws slots)
cleared-held cs old new t slots raws h all c = raws-seen cs (cleared slots (view_of old t)) (view_of new t) (nulled raws slots) (nulls-held cs (view_of old t) raws slots h all) c.bytes
