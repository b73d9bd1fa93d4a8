-- One more object of a graph.
use Rattle.std.proofs.Common.{◌≡◌, ◌∙◌, ◌⊎◌, ℕ, ◌+◌, ◌≤◌, Bool, true, false, List, [], ◌∷◌, ◌++◌, refl, sym, ap, subst, inl, inr, arith, pos}
use Rattle.std.specs.Prelude.{◌||◌}
use Rattle.std.proofs.lemmas.Bool.{eq-eqb, ne_eqb, eqb-true}
use Rattle.class_layout.specs.ClassList.{Class}
use Rattle.class_layout.specs.Kinds.{is_ref}
use Rattle.cow_pages.specs.View.{View}
use Rattle.heap_graph.specs.declared.names.Stored.{Stored}
use Rattle.heap_graph.specs.Graph.{Object}
use Rattle.heap_graph.specs.Sizes.{size_in}
use Rattle.heap_graph.specs.Values.{empty_slot, value_at}
use Rattle.object_view.specs.Changes.{ChangesWithin}
use Rattle.object_view.specs.Objects.{IsKnown}
use Rattle.object_view.proofs.Laid.{size-bounds}
use Rattle.raw_objects.specs.Raws.{Raw, Raws, added, new_raw, HoldsRaws, IsFreeSpace, SameRaw, StandsRaw}
use Rattle.raw_objects.proofs.Raws.{at-here, at-other, raws-added}
use Rattle.object_view.specs.Seen.{seen_value}
use Rattle.graph_pages.specs.Holds.{is_at, object_on, raw_under, raws_under, HoldsGraph, IsBeside, SameTable, TellsApart}
use Rattle.graph_pages.proofs.Lists.{in-append}
use Rattle.graph_pages.proofs.Graphs.{found, graph-fits, graph-raws, raws-graph}

empty-value : (table : ℕ → ℕ) (b : Bool) → seen_value table (empty_slot b) ≡ pos 0
empty-value table true = refl
empty-value table false = refl

-- what lies beside the objects lies beside the raw ones
pub free-beside : (cs : List Class) (table : ℕ → ℕ) (os : List Object) (at size : ℕ) → IsBeside cs table os at size → IsFreeSpace cs (raws_under table os) at size
free-beside cs table os at size beside a is =
    let it = found (is_at table a) os is in
    let p : Object = object_on table os a in
    subst (λ b. (b + size_in cs p.shape ≤ at) ⊎ (at + size ≤ b)) (eqb-true (table p.number) a it.1) (beside p it.0)

-- a raw object more is one object of the graph more
pub added-graph : (cs : List Class) (w : View) (table next : ℕ → ℕ) (os : List Object) (o : Object) → TellsApart table os → o.slots ≡ [] → SameTable table next os
    → IsBeside cs table os (next o.number) (size_in cs o.shape) → HoldsRaws cs w (added (raws_under table os) (next o.number) (new_raw o.shape o.number)) → HoldsGraph cs w next (os ++ o ∷ [])
added-graph cs w table next os o apart slots_is same beside held =
    let at : ℕ = next o.number in
    let raws : Raws = raws_under table os in
    let x : Raw = new_raw o.shape o.number in
    raws-graph cs w (added raws at x) next (os ++ o ∷ []) held (λ q q_in. elim (in-append os o q q_in) [
      | inl old ↦
          let it = graph-fits cs table os apart q old in
          let where_is : next q.number ≡ table q.number = same.numbers q old in
          let bounds = size-bounds cs q.shape in
          let here = size-bounds cs o.shape in
          let ne : next q.number ≡ at → ⊥ = λ e. elim (beside q old) [ inl low ↦ omega (arith, e, where_is, bounds.0, bounds.1, bounds.2) | inr high ↦ omega (arith, e, where_is, here.0, here.1, here.2) ] in (
            ap (λ b. b || raws.has (next q.number)) (ne_eqb (next q.number) at ne) ∙ ap raws.has where_is ∙ it.0,
            at-other x (raws.raw (next q.number)) (next q.number) at (λ r. SameRaw cs r (raw_under next q)) ne
                (subst (λ r. SameRaw cs r (raw_under next q)) (sym (ap raws.raw where_is ∙ it.1)) (record { shape = refl; header = refl; values = λ p within. same.values q p old })),
          )
      | inr e ↦
          let place : next q.number ≡ at = ap (λ (p : Object). next p.number) (sym e) in (
            ap (λ b. b || raws.has (next q.number)) (eq-eqb (next q.number) at place),
            at-here x (raws.raw (next q.number)) (next q.number) at (λ r. SameRaw cs r (raw_under next q)) place (subst (λ (p : Object). SameRaw cs x (raw_under next p)) e (record {
              shape = refl;
              header = refl;
              values = λ p within. ap (λ (ss : List Stored). seen_value next (value_at ss p)) slots_is ∙ empty-value next (is_ref p.kind);
            })),
          )
    ])

-- an object was written beside the others
pub graph-added : (cs : List Class) (v w : View) (table next : ℕ → ℕ) (os : List Object) (o : Object) → HoldsGraph cs v table os → TellsApart table os → o.slots ≡ [] → SameTable table next os
    → IsBeside cs table os (next o.number) (size_in cs o.shape) → IsKnown cs o.shape → ChangesWithin v w (next o.number) (next o.number + size_in cs o.shape)
    → StandsRaw cs w (next o.number) (new_raw o.shape o.number) → HoldsGraph cs w next (os ++ o ∷ [])
graph-added cs v w table next os o h apart slots same beside known changes stands =
    added-graph cs w table next os o apart slots same beside
    (raws-added cs v w (raws_under table os) (graph-raws cs v table os h) (next o.number) (new_raw o.shape o.number) (free-beside cs table os (next o.number) (size_in cs o.shape) beside) changes known stands)
