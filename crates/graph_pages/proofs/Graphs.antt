-- Between the objects of a graph and the raw objects.
use Rattle.std.proofs.Common.{◌≡◌, ◌∙◌, ℕ, ◌+◌, ◌≤◌, Bool, true, false, cond, List, [], ◌∷◌, Some, refl, sym, ap, subst, inl, inr, arith, ◌||◌}
use Rattle.std.specs.Prelude.{unwrap_or}
use Rattle.std.specs.List.{find, list_any}
use Rattle.std.proofs.lemmas.Bool.{eq-eqb, eqb-true, false≢true}
use Rattle.class_layout.specs.ClassList.{Class}
use Rattle.class_layout.specs.Placing.{IsIn}
use Rattle.cow_pages.specs.View.{View, u32_at}
use Rattle.heap_graph.specs.declared.names.Shape.{Shape}
use Rattle.heap_graph.specs.Graph.{Object}
use Rattle.heap_graph.specs.Sizes.{size_in}
use Rattle.object_view.specs.Objects.{IsKnown}
use Rattle.raw_objects.specs.Raws.{Raws, HoldsRaws, SameRaw, StandsRaw}
use Rattle.raw_objects.proofs.Raws.{same-stands}
use Rattle.graph_pages.specs.Holds.{is_at, no_object, object_on, raw_under, raws_under, AreAmong, HoldsGraph, SameTable, TellsApart}

-- what a test finds is in the list and passes it
pub found : (p : Object → Bool) (os : List Object) → list_any p os ≡ true → IsIn (unwrap_or (find p os) no_object) os × (p (unwrap_or (find p os) no_object) ≡ true)
found p [] is = absurd (false≢true is)
found p (o ∷ os) is = by (p o) refl (found p os) is
  where
    by : (b : Bool) → p o ≡ b → (list_any p os ≡ true → IsIn (unwrap_or (find p os) no_object) os × (p (unwrap_or (find p os) no_object) ≡ true)) → (b || list_any p os) ≡ true
        → IsIn (unwrap_or (cond b (Some o) (find p os)) no_object) (o ∷ os) × (p (unwrap_or (cond b (Some o) (find p os)) no_object) ≡ true)
    by true e rest is = (inl refl, e)
    by false e rest is = let it = rest is in (inr it.0, it.1)

-- what is in the list and passes is found
pub any-in : (p : Object → Bool) (os : List Object) (o : Object) → IsIn o os → p o ≡ true → list_any p os ≡ true
any-in p [] o there is = absurd there
any-in p (q ∷ os) o (inl e) is = ap (λ b. b || list_any p os) (ap p e ∙ is)
any-in p (q ∷ os) o (inr there) is = ap (λ b. p q || b) (any-in p os o there is) ∙ true-right (p q)
  where
    true-right : (b : Bool) → (b || true) ≡ true
    true-right true = refl
    true-right false = refl

-- no two objects have one number
abbrev pub NumbersDiffer : List Object → Type 0
NumbersDiffer os = (o p : Object) → IsIn o os → IsIn p os → o.number ≡ p.number → o ≡ p

-- the headers tell objects apart
pub tells-apart : (cs : List Class) (v : View) (table : ℕ → ℕ) (os : List Object) → HoldsGraph cs v table os → NumbersDiffer os → TellsApart table os
tells-apart cs v table os h differ o p o_in p_in same =
    let one = (h.stands o o_in).lock_is in
    let other = subst (λ a. u32_at v (a + 4) ≡ 0x80000000 + p.number) (sym same) (h.stands p p_in).lock_is in
    differ o p o_in p_in (omega (arith, one, other))

-- a graph as raw objects
pub graph-raws : (cs : List Class) (v : View) (table : ℕ → ℕ) (os : List Object) → HoldsGraph cs v table os → HoldsRaws cs v (raws_under table os)
graph-raws cs v table os h = record {
  known = λ a is. h.known (object_on table os a) (found (is_at table a) os is).0;
  stands = λ a is.
      let it = found (is_at table a) os is in
      let o : Object = object_on table os a in
      subst (λ b. StandsRaw cs v b (raw_under table o)) (eqb-true (table o.number) a it.1) (h.stands o it.0);
  apart = λ a b is is' lt.
      let it = found (is_at table a) os is in
      let other = found (is_at table b) os is' in
      let o : Object = object_on table os a in
      let p : Object = object_on table os b in
      let at : table o.number ≡ a = eqb-true (table o.number) a it.1 in
      let at' : table p.number ≡ b = eqb-true (table p.number) b other.1 in
      let beside = h.apart o p it.0 other.0 (omega arith) in
      omega (arith, beside, at, at');
}

-- each object is there
pub graph-fits : (cs : List Class) (table : ℕ → ℕ) (os : List Object) → TellsApart table os → (o : Object) → IsIn o os
    → ((raws_under table os).has (table o.number) ≡ true) × ((raws_under table os).raw (table o.number) ≡ raw_under table o)
graph-fits cs table os apart o there =
    let has : list_any (is_at table (table o.number)) os ≡ true = any-in (is_at table (table o.number)) os o there (eq-eqb (table o.number) (table o.number) refl) in
    let it = found (is_at table (table o.number)) os has in
    let p : Object = object_on table os (table o.number) in
    (has, ap (raw_under table) (apart p o it.0 there (eqb-true (table p.number) (table o.number) it.1)))

-- and the same at each of its places
pub graph-among : (cs : List Class) (table : ℕ → ℕ) (os : List Object) → TellsApart table os → AreAmong cs (raws_under table os) table os
graph-among cs table os apart o there =
    let it = graph-fits cs table os apart o there in
    (it.0, subst (λ r. SameRaw cs r (raw_under table o)) (sym it.1) (record { shape = refl; header = refl; values = λ p within. refl }))

-- raw objects as a graph
pub raws-graph : (cs : List Class) (v : View) (raws : Raws) (table : ℕ → ℕ) (os : List Object) → HoldsRaws cs v raws → AreAmong cs raws table os → HoldsGraph cs v table os
raws-graph cs v raws table os h fits = record {
  known = λ o there. let it = fits o there in subst (IsKnown cs) (sym it.1.shape) (h.known (table o.number) it.0);
  stands = λ o there. let it = fits o there in same-stands cs v (table o.number) (raws.raw (table o.number)) (raw_under table o) it.1 (h.stands (table o.number) it.0);
  apart = λ o p o_in p_in lt.
      let one = fits o o_in in
      let other = fits p p_in in
      subst (λ (s : Shape). table o.number + size_in cs s ≤ table p.number) (sym one.1.shape) (h.apart (table o.number) (table p.number) one.0 other.0 lt);
}

-- the same under another table that has the same addresses
pub graph-same : (cs : List Class) (v : View) (table next : ℕ → ℕ) (os : List Object) → HoldsGraph cs v table os → SameTable table next os → HoldsGraph cs v next os
graph-same cs v table next os h same = record {
  known = h.known;
  stands = λ o there.
      subst (λ a. StandsRaw cs v a (raw_under next o)) (sym (same.numbers o there))
      (same-stands cs v (table o.number) (raw_under table o) (raw_under next o) (record { shape = refl; header = refl; values = λ p within. same.values o p there }) (h.stands o there));
  apart = λ o p o_in p_in lt.
      let one : next o.number ≡ table o.number = same.numbers o o_in in
      let other : next p.number ≡ table p.number = same.numbers p p_in in
      let it = h.apart o p o_in p_in (omega (arith, lt, one, other)) in
      omega (arith, it, one, other);
}
