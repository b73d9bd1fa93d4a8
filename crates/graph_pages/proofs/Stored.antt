-- A store into one object of a graph.
use Rattle.std.proofs.Common.{◌≡◌, ◌∙◌, ◌⊎◌, ℕ, ◌+◌, Bool, true, false, cond, List, [], ◌∷◌, refl, sym, ap, subst, inl, inr, ℤ}
use Rattle.std.specs.Prelude.{nat_eq}
use Rattle.std.proofs.lemmas.Bool.{eq-eqb, ne_eqb, eqb-true, eqb-false, cases_eq}
use Rattle.class_layout.specs.declared.kind.FieldAt.{FieldAt}
use Rattle.class_layout.specs.declared.kind.Kind.{Kind}
use Rattle.class_layout.specs.ClassList.{Class}
use Rattle.class_layout.specs.Kinds.{is_ref}
use Rattle.class_layout.specs.Placing.{IsIn}
use Rattle.cow_pages.specs.View.{View}
use Rattle.heap_graph.specs.declared.names.Stored.{Stored}
use Rattle.heap_graph.specs.Graph.{Object}
use Rattle.heap_graph.specs.Values.{empty_slot, stored_if, value_at, value_if, with_stored}
use Rattle.heap_world.specs.Acts.{stored_in, stored_in_if}
use Rattle.object_view.specs.Changes.{PutsNumber}
use Rattle.object_view.specs.Objects.{IsPlace}
use Rattle.object_view.specs.Values.{number_of}
use Rattle.raw_objects.specs.Raws.{Raw, Raws, HoldsRaws, SameRaw, stored, stored_raw}
use Rattle.raw_objects.proofs.Raws.{at-here, at-other, raws-stored}
use Rattle.object_view.specs.Seen.{seen_value, value_in}
use Rattle.graph_pages.specs.Holds.{raw_under, raws_under, HoldsGraph, TellsApart}
use Rattle.graph_pages.proofs.Graphs.{graph-fits, graph-raws, raws-graph}
use Rattle.graph_pages.proofs.Lists.{in-map}

-- what was stored is found at its offset, and everything else as before
pub value_at-stored : (ss : List Stored) (new : Stored) (p : FieldAt) → value_at (with_stored ss new) p ≡ cond (nat_eq p.offset new.at.offset) new.value (value_at ss p)
value_at-stored [] new p = by (cases_eq p.offset new.at.offset)
  where
    by : (p.offset ≡ new.at.offset) ⊎ (p.offset ≡ new.at.offset → ⊥) → value_if (nat_eq new.at.offset p.offset) new.value (empty_slot (is_ref p.kind)) ≡ cond (nat_eq p.offset new.at.offset) new.value (empty_slot (is_ref p.kind))
    by (inl e) = rw (eq-eqb new.at.offset p.offset (sym e), eq-eqb p.offset new.at.offset e)
    by (inr ne) = rw (ne_eqb new.at.offset p.offset (λ e. ne (sym e)), ne_eqb p.offset new.at.offset ne)
value_at-stored (s ∷ ss) new p = by (nat_eq s.at.offset new.at.offset) refl (cases_eq p.offset new.at.offset) (value_at-stored ss new p)
  where
    by : (b : Bool) → nat_eq s.at.offset new.at.offset ≡ b → (p.offset ≡ new.at.offset) ⊎ (p.offset ≡ new.at.offset → ⊥)
        → value_at (with_stored ss new) p ≡ cond (nat_eq p.offset new.at.offset) new.value (value_at ss p)
        → value_at (stored_if b new ss (with_stored ss new) s) p ≡ cond (nat_eq p.offset new.at.offset) new.value (value_if (nat_eq s.at.offset p.offset) s.value (value_at ss p))
    by true is (inl e) rest = rw (eq-eqb new.at.offset p.offset (sym e), eq-eqb p.offset new.at.offset e)
    by true is (inr ne) rest = rw (ne_eqb new.at.offset p.offset (λ e. ne (sym e)), ne_eqb p.offset new.at.offset ne, ne_eqb s.at.offset p.offset (λ e. ne (sym e ∙ eqb-true s.at.offset new.at.offset is)))
    by false is (inl e) rest = rw (rest, eq-eqb p.offset new.at.offset e, ne_eqb s.at.offset p.offset (λ x. eqb-false s.at.offset new.at.offset is (x ∙ e)))
    by false is (inr ne) rest = rw (rest, ne_eqb p.offset new.at.offset ne)

module _ (cs : List Class) (table : ℕ → ℕ) (os : List Object) (apart : TellsApart table os) (o : Object) (there : IsIn o os) (new : Stored) (z : ℤ) (is : seen_value table new.value ≡ z) where
  -- the object itself
  same-here : SameRaw cs (stored_raw (raw_under table o) new.at.offset z) (raw_under table (record o { slots = with_stored o.slots new }))
  same-here = record {
    shape = refl;
    header = refl;
    values = λ p within. ap (seen_value table) (value_at-stored o.slots new p) ∙ by (nat_eq p.offset new.at.offset) p;
  }
    where
      by : (b : Bool) (p : FieldAt) → seen_value table (cond b new.value (value_at o.slots p)) ≡ cond b z (value_in table o p)
      by true p = is
      by false p = refl

  abbrev now : Raws
  now = stored (raws_under table os) (table o.number) new.at.offset z

  abbrev FitsOne : Object → Type 0
  FitsOne q = (now.has (table q.number) ≡ true) × SameRaw cs (now.raw (table q.number)) (raw_under table q)

  fits-one : (p : Object) → IsIn p os → (b : Bool) → nat_eq p.number o.number ≡ b → FitsOne (stored_in_if b p new)
  fits-one p p_in true e =
      let it = graph-fits cs table os apart p p_in in
      let number : p.number ≡ o.number = eqb-true p.number o.number e in
      let same : p ≡ o = apart p o p_in there (ap table number) in
      let old : (raws_under table os).raw (table o.number) ≡ raw_under table p = ap (raws_under table os).raw (ap table (sym number)) ∙ it.1 in (
        it.0,
        at-here (stored_raw ((raws_under table os).raw (table o.number)) new.at.offset z) ((raws_under table os).raw (table p.number)) (table p.number) (table o.number)
            (λ r. SameRaw cs r (raw_under table (record p { slots = with_stored p.slots new }))) (ap table number)
            (subst (λ r. SameRaw cs (stored_raw r new.at.offset z) (raw_under table (record p { slots = with_stored p.slots new }))) (sym old)
            (subst (λ (q : Object). SameRaw cs (stored_raw (raw_under table q) new.at.offset z) (raw_under table (record q { slots = with_stored q.slots new }))) (sym same) same-here)),
      )
  fits-one p p_in false e =
      let it = graph-fits cs table os apart p p_in in
      let ne : table p.number ≡ table o.number → ⊥ = λ same. eqb-false p.number o.number e (ap (λ (q : Object). q.number) (apart p o p_in there same)) in (
        it.0,
        at-other (stored_raw ((raws_under table os).raw (table o.number)) new.at.offset z) ((raws_under table os).raw (table p.number)) (table p.number) (table o.number)
            (λ r. SameRaw cs r (raw_under table p)) ne (subst (λ r. SameRaw cs r (raw_under table p)) (sym it.1) (record { shape = refl; header = refl; values = λ q within. refl })),
      )

  -- a store into the raw object is one into the graph
  pub graph-stored : (w : View) → HoldsRaws cs w now → HoldsGraph cs w table (stored_in os o.number new)
  graph-stored w h = raws-graph cs w now table (stored_in os o.number new) h (λ q q_in.
      let it = in-map (λ p. stored_in_if (nat_eq p.number o.number) p new) os q q_in in
      subst FitsOne it.2 (fits-one it.0 it.1 (nat_eq it.0.number o.number) refl))

  -- a value was put at its place
  pub graph-put : (v w : View) (kind : Kind) (offset : ℕ) → HoldsGraph cs v table os → IsPlace cs o.shape kind offset new.at → PutsNumber v w kind (table o.number + offset) (number_of kind z)
      → HoldsGraph cs w table (stored_in os o.number new)
  graph-put v w kind offset h place puts =
      let raws : Raws = raws_under table os in
      let it = graph-fits cs table os apart o there in
      graph-stored w (subst (λ n. HoldsRaws cs w (stored raws (table o.number) n z)) (sym place.offset_is)
      (raws-stored cs v w raws (graph-raws cs v table os h) (table o.number) kind offset new.at z it.0 (subst (λ (r : Raw). IsPlace cs r.shape kind offset new.at) (sym it.1) place) puts))
