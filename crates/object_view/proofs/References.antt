-- References by their index: each one has an index, and there are no others.
use Rattle.std.proofs.Common.{cond, ◌≡◌, ◌∙◌, ℕ, zero, suc, ◌+◌, ◌<◌, ◌≤◌, Bool, true, false, true≢false, ◌&&◌, nat_lt, List, [], ◌∷◌, filter, map, length, slice_get, Some, None, refl, sym, ap, subst, inl, inr, arith}
use Rattle.std.proofs.lemmas.Bool.{lt-ltb, le-ltb}
use Rattle.class_layout.specs.declared.kind.Kind.{Kind}
use Rattle.class_layout.specs.declared.kind.Kind.TheVariants.{Ref}
use Rattle.class_layout.specs.declared.kind.FieldAt.{FieldAt}
use Rattle.class_layout.specs.ClassList.{Class, layout_of}
use Rattle.class_layout.specs.Kinds.{is_ref}
use Rattle.class_layout.specs.Layout.{Placed, references}
use Rattle.class_layout.specs.Placing.{IsIn}
use Rattle.heap_graph.specs.declared.names.Shape.{Shape}
use Rattle.heap_graph.specs.declared.names.Shape.TheVariants.{Instance, Array}
use Rattle.heap_graph.specs.Places.{element, elements_from, places_of}
use Rattle.object_view.specs.Objects.{place_if, reference_count, reference_place}
use Rattle.object_view.proofs.Laid.{ref-kind}

-- what passes a filter stands at an index of what it leaves
found-filter : (f : FieldAt → Bool) (ps : List FieldAt) (p : FieldAt) → IsIn p ps → f p ≡ true → (k : ℕ) × (k < length (filter f ps)) × (slice_get (filter f ps) k ≡ Some p)
found-filter f [] p there is = absurd there
found-filter f (q ∷ ps) p there is = by (f q) refl there (λ rest. found-filter f ps p rest is)
  where
    by : (b : Bool) → f q ≡ b → IsIn p (q ∷ ps) → (IsIn p ps → (k : ℕ) × (k < length (filter f ps)) × (slice_get (filter f ps) k ≡ Some p))
        → (k : ℕ) × (k < length (cond b (q ∷ filter f ps) (filter f ps))) × (slice_get (cond b (q ∷ filter f ps) (filter f ps)) k ≡ Some p)
    by true q_is (inl same) rest = (0, omega arith, ap Some same)
    by true q_is (inr there) rest = let it = rest there in (suc it.0, omega (arith, it.1), it.2)
    by false q_is (inl same) rest = absurd (true≢false (sym is ∙ ap f (sym same) ∙ q_is))
    by false q_is (inr there) rest = rest there

get-below : (ps : List FieldAt) (k : ℕ) → k < length ps → (p : FieldAt) × (slice_get ps k ≡ Some p)
get-below [] k below = absurd (omega arith)
get-below (p ∷ ps) zero below = (p, refl)
get-below (p ∷ ps) (suc k) below = get-below ps k (omega arith)

get-past : (ps : List FieldAt) (k : ℕ) → length ps ≤ k → slice_get ps k ≡ None
get-past [] k past = refl
get-past (p ∷ ps) zero past = absurd (omega arith)
get-past (p ∷ ps) (suc k) past = get-past ps k (omega arith)

-- an element's place is that of some index
element-index : (kind : Kind) (i n : ℕ) (p : FieldAt) → IsIn p (elements_from kind i n) → (k : ℕ) × (k < i + n) × (element kind k ≡ p)
element-index kind i zero p there = absurd there
element-index kind i (suc n) p (inl same) = (i, omega arith, same)
element-index kind i (suc n) p (inr there) = let it = element-index kind (i + 1) n p there in (it.0, omega (arith, it.1), it.2)

array-found : (kind : Kind) (count k : ℕ) → kind ≡ Ref → k < count → place_if (is_ref kind && nat_lt k count) (element kind k) ≡ Some (element kind k)
array-found kind count k is below = ap (λ b. place_if b (element kind k)) (ap (λ (q : Kind). is_ref q && nat_lt k count) is ∙ lt-ltb k count below)

-- each place of a reference has an index
pub references-found : (cs : List Class) (shape : Shape) (p : FieldAt) → IsIn p (places_of cs shape) → p.kind ≡ Ref
    → (k : ℕ) × (k < reference_count cs shape) × (reference_place cs shape k ≡ Some p)
references-found cs (Instance class) p there is = found-filter (λ at. is_ref at.kind) (map (λ (q : Placed). q.at) (layout_of cs class).fields) p there (ap is_ref is)
references-found cs (Array kind count) p there is =
    let it = element-index kind 0 count p there in
    let kind_is : kind ≡ Ref = ap (λ (q : FieldAt). q.kind) it.2 ∙ is in
    let below : it.0 < count = omega (arith, it.1) in
    (it.0, subst (λ n. it.0 < n) (sym (ap (λ (q : Kind). cond {A = ℕ} (is_ref q) count 0) kind_is)) below, array-found kind count it.0 kind_is below ∙ ap Some it.2)

-- each index below the count finds one
pub references-each : (cs : List Class) (shape : Shape) (k : ℕ) → k < reference_count cs shape → (p : FieldAt) × (reference_place cs shape k ≡ Some p)
references-each cs (Instance class) k below = get-below (references (layout_of cs class)) k below
references-each cs (Array kind count) k below = by (is_ref kind) refl below
  where
    by : (b : Bool) → is_ref kind ≡ b → k < cond {A = ℕ} b count 0 → (p : FieldAt) × (place_if (is_ref kind && nat_lt k count) (element kind k) ≡ Some p)
    by true is below = (element kind k, array-found kind count k (ref-kind kind is) below)
    by false is below = absurd (omega arith)

-- and no other index does
pub references-none : (cs : List Class) (shape : Shape) (k : ℕ) → reference_count cs shape ≤ k → reference_place cs shape k ≡ None
references-none cs (Instance class) k past = get-past (references (layout_of cs class)) k past
references-none cs (Array kind count) k past = by (is_ref kind) past
  where
    by : (b : Bool) → cond {A = ℕ} b count 0 ≤ k → place_if (b && nat_lt k count) (element kind k) ≡ None
    by true past = ap (λ b. place_if b (element kind k)) (le-ltb k count past)
    by false past = refl
