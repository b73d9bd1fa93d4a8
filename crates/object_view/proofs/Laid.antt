-- The places of an object's values: they rise, lie apart, and lie in the object.
use Rattle.std.proofs.Common.{◌≡◌, ◌⊎◌, ◌∙◌, ℕ, zero, suc, ◌+◌, ◌%◌, ◌<◌, ◌≤◌, Bool, true, false, List, [], ◌∷◌, Some, map, filter, refl, sym, ap, subst, inl, inr, arith, slice_get}
use Rattle.std.specs.List.{AllByRecursion}
use Rattle.std.proofs.Common.{cond, true≢false, nat_le, nat_lt, ◌&&◌, ◌||◌}
use Rattle.std.proofs.lemmas.Bool.{cases_lt, lt-ltb, le-leb, ltb-true}
use Rattle.std.proofs.lemmas.Option.{same_Some, none-some}
use Rattle.class_layout.specs.declared.kind.Kind.{Kind}
use Rattle.class_layout.specs.declared.kind.Kind.TheVariants.{Ref, Boolean, Byte, Char, Short, Int, Long}
use Rattle.class_layout.specs.declared.kind.FieldAt.{FieldAt}
use Rattle.class_layout.specs.ClassList.{Class, layout_of}
use Rattle.class_layout.specs.Kinds.{kind_bytes, is_ref}
use Rattle.class_layout.specs.Layout.{Placed}
use Rattle.class_layout.specs.Placing.{IsIn}
use Rattle.heap_graph.specs.declared.names.Shape.{Shape}
use Rattle.heap_graph.specs.declared.names.Shape.TheVariants.{Instance, Array}
use Rattle.heap_graph.specs.Sizes.{size_in, unrounded}
use Rattle.heap_graph.specs.Places.{element, elements_from, places_of}
use Rattle.heap_graph.proofs.Places.{AreLaid, array-laid, element-in, fields-laid, laid-in, laid-le, laid-lower}
use Rattle.object_view.specs.Objects.{is_in_value, place_if, reference_place, IsPlace}
use Rattle.object_view.specs.Words.{head_end}

-- an object's values lie behind its words and before its end
pub places-laid : (cs : List Class) (shape : Shape) → AreLaid (head_end shape) (unrounded cs shape) (places_of cs shape)
places-laid cs (Instance class) = fields-laid cs class
places-laid cs (Array kind count) = array-laid kind count

-- the rounded size is no less than the end
pub size-bounds : (cs : List Class) (shape : Shape) → (head_end shape ≤ unrounded cs shape) × (unrounded cs shape ≤ size_in cs shape) × (8 ≤ head_end shape) × (size_in cs shape % 8 ≡ 0)
size-bounds cs shape =
    let le = laid-le (head_end shape) (unrounded cs shape) (places_of cs shape) (places-laid cs shape) in
    (le, omega arith, head shape, omega arith)
  where
    head : (shape : Shape) → 8 ≤ head_end shape
    head (Instance class) = omega arith
    head (Array kind count) = omega arith

-- what holds of places gives what holds of them, given where they lie
pub all-laid : (P Q : FieldAt → Type 0) (low high : ℕ) (ps : List FieldAt) → AreLaid low high ps → AllByRecursion P ps
    → ((p : FieldAt) → low ≤ p.offset → p.offset + kind_bytes p.kind ≤ high → P p → Q p) → AllByRecursion Q ps
all-laid P Q low high [] laid all step = tt
all-laid P Q low high (p ∷ ps) laid all step = (
  step p laid.0 (laid-le (p.offset + kind_bytes p.kind) high ps laid.2) all.0,
  all-laid P Q (p.offset + kind_bytes p.kind) high ps laid.2 all.1 (λ q low' high' h. step q (omega (arith, laid.0)) high' h),
)

-- the same with nothing known of them before
pub all-places : (Q : FieldAt → Type 0) (low high : ℕ) (ps : List FieldAt) → AreLaid low high ps
    → ((p : FieldAt) → low ≤ p.offset → p.offset + kind_bytes p.kind ≤ high → Q p) → AllByRecursion Q ps
all-places Q low high [] laid step = tt
all-places Q low high (p ∷ ps) laid step = (
  step p laid.0 (laid-le (p.offset + kind_bytes p.kind) high ps laid.2),
  all-places Q (p.offset + kind_bytes p.kind) high ps laid.2 (λ q low' high'. step q (omega (arith, laid.0)) high'),
)

or-yes : (b : Bool) → (b || true) ≡ true
or-yes true = refl
or-yes false = refl

-- a byte of a place is one of a value's
in-value : (ps : List FieldAt) (p : FieldAt) (i : ℕ) → IsIn p ps → p.offset ≤ i → i < p.offset + kind_bytes p.kind → is_in_value ps i ≡ true
in-value [] p i there low high = absurd there
in-value (q ∷ ps) p i (inl same) low high =
    let here : (nat_le q.offset i && nat_lt i (q.offset + kind_bytes q.kind)) ≡ true =
    subst (λ (r : FieldAt). (nat_le r.offset i && nat_lt i (r.offset + kind_bytes r.kind)) ≡ true) (sym same)
    (ap (λ b. b && nat_lt i (p.offset + kind_bytes p.kind)) (le-leb p.offset i low) ∙ lt-ltb i (p.offset + kind_bytes p.kind) high) in
    ap (λ b. b || is_in_value ps i) here
in-value (q ∷ ps) p i (inr there) low high =
    let rest = in-value ps p i there low high in
    let test : Bool = nat_le q.offset i && nat_lt i (q.offset + kind_bytes q.kind) in
    ap (λ b. test || b) rest ∙ or-yes test

-- a byte that is no value's lies beside each place
pub beside-place : (ps : List FieldAt) (p : FieldAt) (i : ℕ) → IsIn p ps → is_in_value ps i ≡ false → (i < p.offset) ⊎ (p.offset + kind_bytes p.kind ≤ i)
beside-place ps p i there none = elim (cases_lt i p.offset) [
  | inl below ↦ inl below
  | inr low ↦ elim (cases_lt i (p.offset + kind_bytes p.kind)) [
    | inl high ↦ absurd (true≢false (sym (in-value ps p i there low high) ∙ none))
    | inr above ↦ inr above
  ]
]

-- what a filter leaves at an index was there, and passes
pub filter-at : (f : FieldAt → Bool) (ps : List FieldAt) (k : ℕ) (p : FieldAt) → slice_get (filter f ps) k ≡ Some p → IsIn p ps × (f p ≡ true)
filter-at f [] k p e = absurd (none-some p e)
filter-at f (q ∷ ps) k p e = by (f q) refl k e (λ j there. filter-at f ps j p there)
  where
    by : (b : Bool) → f q ≡ b → (k : ℕ) → slice_get (cond b (q ∷ filter f ps) (filter f ps)) k ≡ Some p
        → ((j : ℕ) → slice_get (filter f ps) j ≡ Some p → IsIn p ps × (f p ≡ true)) → IsIn p (q ∷ ps) × (f p ≡ true)
    by true is zero e rest = (inl (same_Some q p e), subst (λ r. f r ≡ true) (same_Some q p e) is)
    by true is (suc k) e rest = let there = rest k e in (inr there.0, there.1)
    by false is k e rest = let there = rest k e in (inr there.0, there.1)

-- what a filter leaves is laid as it was
filter-laid : (f : FieldAt → Bool) (low high : ℕ) (ps : List FieldAt) → AreLaid low high ps → AreLaid low high (filter f ps)
filter-laid f low high [] laid = laid
filter-laid f low high (p ∷ ps) laid = by (f p) (filter-laid f (p.offset + kind_bytes p.kind) high ps laid.2)
  where
    by : (b : Bool) → AreLaid (p.offset + kind_bytes p.kind) high (filter f ps) → AreLaid low high (cond b (p ∷ filter f ps) (filter f ps))
    by true rest = (laid.0, laid.1, rest)
    by false rest = laid-lower low (p.offset + kind_bytes p.kind) high (filter f ps) (omega (arith, laid.0)) rest

laid-from : (low high : ℕ) (ps : List FieldAt) (k : ℕ) (p : FieldAt) → AreLaid low high ps → slice_get ps k ≡ Some p → low ≤ p.offset
laid-from low high [] k p laid e = absurd (none-some p e)
laid-from low high (q ∷ ps) zero p laid e = subst (λ (r : FieldAt). low ≤ r.offset) (same_Some q p e) laid.0
laid-from low high (q ∷ ps) (suc k) p laid e = omega (arith, laid.0, laid-from (q.offset + kind_bytes q.kind) high ps k p laid.2 e)

laid-rise : (low high : ℕ) (ps : List FieldAt) (j k : ℕ) (p q : FieldAt) → AreLaid low high ps → j < k → slice_get ps j ≡ Some p → slice_get ps k ≡ Some q → p.offset + kind_bytes p.kind ≤ q.offset
laid-rise low high [] j k p q laid below at_j at_k = absurd (none-some p at_j)
laid-rise low high (r ∷ ps) j zero p q laid below at_j at_k = absurd (omega arith)
laid-rise low high (r ∷ ps) zero (suc k) p q laid below at_j at_k =
    subst (λ (s : FieldAt). s.offset + kind_bytes s.kind ≤ q.offset) (same_Some r p at_j) (laid-from (r.offset + kind_bytes r.kind) high ps k q laid.2 at_k)
laid-rise low high (r ∷ ps) (suc j) (suc k) p q laid below at_j at_k = laid-rise (r.offset + kind_bytes r.kind) high ps j k p q laid.2 (omega arith) at_j at_k

-- a kind of references is that of references
pub ref-kind : (kind : Kind) → is_ref kind ≡ true → kind ≡ Ref
ref-kind Ref is = refl
ref-kind Boolean is = absurd (true≢false (sym is))
ref-kind Byte is = absurd (true≢false (sym is))
ref-kind Char is = absurd (true≢false (sym is))
ref-kind Short is = absurd (true≢false (sym is))
ref-kind Int is = absurd (true≢false (sym is))
ref-kind Long is = absurd (true≢false (sym is))

-- a place behind a test that holds
pub place-if : (a b : Bool) (p q : FieldAt) → place_if (a && b) p ≡ Some q → (a ≡ true) × (b ≡ true) × (p ≡ q)
place-if true true p q e = (refl, refl, same_Some p q e)
place-if true false p q e = absurd (none-some q e)
place-if false b p q e = absurd (none-some q e)

-- a reference is a place of the shape
pub reference-in : (cs : List Class) (shape : Shape) (k : ℕ) (p : FieldAt) → reference_place cs shape k ≡ Some p → IsIn p (places_of cs shape) × (p.kind ≡ Ref)
reference-in cs (Instance class) k p e = let there = filter-at (λ at. is_ref at.kind) (map (λ q. q.at) (layout_of cs class).fields) k p e in (there.0, ref-kind p.kind there.1)
reference-in cs (Array kind count) k p e =
    let is = place-if (is_ref kind) (nat_lt k count) (element kind k) p e in
    let there = element-in kind 0 count k (omega arith) (omega (arith, ltb-true k count is.1)) in
    (subst (λ (q : FieldAt). IsIn q (elements_from kind 0 count)) is.2 there, ap (λ (q : FieldAt). q.kind) (sym is.2) ∙ ref-kind kind is.0)

element-rise : (kind : Kind) (j k : ℕ) → kind ≡ Ref → j < k → (element kind j).offset + 4 ≤ (element kind k).offset
element-rise Ref j k is below = omega arith
element-rise Boolean j k is below = absurd (cc)
element-rise Byte j k is below = absurd (cc)
element-rise Char j k is below = absurd (cc)
element-rise Short j k is below = absurd (cc)
element-rise Int j k is below = absurd (cc)
element-rise Long j k is below = absurd (cc)

pub references-rise : (cs : List Class) (shape : Shape) (j k : ℕ) (a b : FieldAt) → j < k → reference_place cs shape j ≡ Some a → reference_place cs shape k ≡ Some b → a.offset + 4 ≤ b.offset
references-rise cs (Instance class) j k a b below at_j at_k =
    let fields = map (λ (p : Placed). p.at) (layout_of cs class).fields in
    let kind = (reference-in cs (Instance class) j a at_j).1 in
    subst (λ (kind : Kind). a.offset + kind_bytes kind ≤ b.offset) kind
    (laid-rise 8 (layout_of cs class).end (filter (λ at. is_ref at.kind) fields) j k a b (filter-laid (λ at. is_ref at.kind) 8 (layout_of cs class).end fields (fields-laid cs class)) below at_j at_k)
references-rise cs (Array kind count) j k a b below at_j at_k =
    let j_is = place-if (is_ref kind) (nat_lt j count) (element kind j) a at_j in
    let k_is = place-if (is_ref kind) (nat_lt k count) (element kind k) b at_k in
    subst (λ (p : FieldAt). p.offset + 4 ≤ b.offset) j_is.2
    (subst (λ (p : FieldAt). (element kind j).offset + 4 ≤ p.offset) k_is.2 (element-rise kind j k (ref-kind kind j_is.0) below))

-- where a place lies in its object
pub place-within : (cs : List Class) (shape : Shape) (kind : Kind) (offset : ℕ) (p : FieldAt) → IsPlace cs shape kind offset p
    → (head_end shape ≤ offset) × (offset % kind_bytes kind ≡ 0) × (offset + kind_bytes kind ≤ size_in cs shape)
place-within cs shape kind offset p is =
    let lies = laid-in (head_end shape) (unrounded cs shape) (places_of cs shape) p (places-laid cs shape) is.is_in in
    let size = size-bounds cs shape in
    let end : p.offset + kind_bytes p.kind ≤ size_in cs shape = omega (arith, lies.2, size.1) in
    subst (λ (k : Kind). (head_end shape ≤ offset) × (offset % kind_bytes k ≡ 0) × (offset + kind_bytes k ≤ size_in cs shape)) is.kind_is
    (subst (λ o. (head_end shape ≤ o) × (o % kind_bytes p.kind ≡ 0) × (o + kind_bytes p.kind ≤ size_in cs shape)) is.offset_is (lies.0, lies.1, end))
