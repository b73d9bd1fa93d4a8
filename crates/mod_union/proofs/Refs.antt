-- References by rising offset, and the first behind an offset.
use Rattle.std.proofs.Common.{◌≡◌, ◌∙◌, ℕ, zero, suc, ◌+◌, ◌*◌, ◌<◌, ◌≤◌, Bool, true, false, List, Option, Some, None, refl, sym, ap, inl, inr, arith}
use Rattle.std.proofs.lemmas.Bool.{cases_lt, cases_order}
use Rattle.std.proofs.lemmas.Option.{none-some, same_Some}
use Rattle.std.specs.Prelude.{option_map, ◌&&◌, nat_lt}
use Rattle.class_layout.specs.declared.kind.Kind.{Kind}
use Rattle.class_layout.specs.declared.kind.Kind.TheVariants.{Ref}
use Rattle.class_layout.specs.Kinds.{first_element, is_ref, kind_bytes}
use Rattle.heap_graph.specs.declared.names.Shape.TheVariants.{Array}
use Rattle.heap_graph.specs.Places.{element}
use Rattle.class_layout.specs.declared.kind.FieldAt.{FieldAt}
use Rattle.class_layout.specs.ClassList.{Class}
use Rattle.heap_graph.specs.declared.names.Shape.{Shape}
use Rattle.object_view.specs.Objects.{place_if, reference_count, reference_place}
use Rattle.object_view.proofs.Laid.{place-within, reference-in, references-rise, size-bounds}
use Rattle.object_view.proofs.References.{references-each, references-none}

-- an index with a reference is below their count
pub index-below : (cs : List Class) (shape : Shape) (k : ℕ) (p : FieldAt) → reference_place cs shape k ≡ Some p → k < reference_count cs shape
index-below cs shape k p is = elim (cases_lt k (reference_count cs shape)) [
  | inl below ↦ below
  | inr past ↦ absurd (none-some p (sym (references-none cs shape k past) ∙ is))
]

-- behind none there are none
pub none-behind : (cs : List Class) (shape : Shape) (j k : ℕ) (p : FieldAt) → k ≤ j → reference_place cs shape k ≡ None → reference_place cs shape j ≡ Some p → ⊥
none-behind cs shape j k p le none is =
    let it = references-each cs shape k (let below = index-below cs shape j p is in omega (arith, below, le)) in
    none-some it.0 (sym none ∙ it.1)

-- each reference has 4 bytes, and 8 stand before the first
pub reference-low : (cs : List Class) (shape : Shape) (k : ℕ) (p : FieldAt) → reference_place cs shape k ≡ Some p → 8 + 4 * k ≤ p.offset
reference-low cs shape zero p is =
    let there = reference-in cs shape zero p is in
    let within = place-within cs shape Ref p.offset p (record { is_in = there.0; kind_is = there.1; offset_is = refl }) in
    let bounds = size-bounds cs shape in
    omega (arith, within.0, bounds.2)
reference-low cs shape (suc k) p is =
    let it = references-each cs shape k (let below = index-below cs shape (suc k) p is in omega (arith, below)) in
    let low = reference-low cs shape k it.0 it.1 in
    let rise = references-rise cs shape k (suc k) it.0 p (omega arith) it.1 is in
    omega (arith, low, rise)

-- references rise with their indices
pub reference-order : (cs : List Class) (shape : Shape) (j k : ℕ) (a b : FieldAt) → j ≤ k → reference_place cs shape j ≡ Some a → reference_place cs shape k ≡ Some b → a.offset ≤ b.offset
reference-order cs shape j k a b le one other = elim (cases_order j k) [
  | inl same ↦ let here : a ≡ b = same_Some a b (sym one ∙ ap (reference_place cs shape) same ∙ other) in let at = ap (λ (p : FieldAt). p.offset) here in omega (arith, at)
  | inr o ↦ elim o [
    | inl before ↦ let rise = references-rise cs shape j k a b before one other in omega (arith, rise)
    | inr behind ↦ absurd (omega arith)
  ]
]

-- the place whose offset was found
pub found-place : (cs : List Class) (shape : Shape) (k at : ℕ) (weak : Bool) → ◌≡◌ {A = Option (ℕ × Bool)} (Some (at, weak)) (option_map (λ (place : FieldAt). (place.offset, place.weak)) (reference_place cs shape k))
    → (p : FieldAt) × (reference_place cs shape k ≡ Some p) × (p.offset ≡ at) × (p.weak ≡ weak)
found-place cs shape k at weak found = by (reference_place cs shape k) refl found
  where
    by : (o : Option FieldAt) → reference_place cs shape k ≡ o → ◌≡◌ {A = Option (ℕ × Bool)} (Some (at, weak)) (option_map (λ (place : FieldAt). (place.offset, place.weak)) o)
        → (p : FieldAt) × (reference_place cs shape k ≡ Some p) × (p.offset ≡ at) × (p.weak ≡ weak)
    by None is e = let one : ℕ × Bool = (at, weak) in absurd (none-some one (sym e))
    by (Some p) is e =
        let one : ℕ × Bool = (at, weak) in
        let other : ℕ × Bool = (p.offset, p.weak) in
        let pair : one ≡ other = same_Some one other e in
        (p, is, sym (ap (λ (q : ℕ × Bool). q.0) pair), sym (ap (λ (q : ℕ × Bool). q.1) pair))

-- none was found
pub found-none : (cs : List Class) (shape : Shape) (k : ℕ) → ◌≡◌ {A = Option (ℕ × Bool)} None (option_map (λ (place : FieldAt). (place.offset, place.weak)) (reference_place cs shape k)) → reference_place cs shape k ≡ None
found-none cs shape k found = by (reference_place cs shape k) refl found
  where
    by : (o : Option FieldAt) → reference_place cs shape k ≡ o → ◌≡◌ {A = Option (ℕ × Bool)} None (option_map (λ (place : FieldAt). (place.offset, place.weak)) o) → reference_place cs shape k ≡ None
    by None is e = is
    by (Some p) is e = let one : ℕ × Bool = (p.offset, p.weak) in absurd (none-some one e)

-- element k of an array of references stands behind 12 bytes and 4 for each before it
pub array-place : (cs : List Class) (kind : Kind) (count k : ℕ) (p : FieldAt) → reference_place cs (Array kind count) k ≡ Some p → p.offset ≡ 12 + k * 4
array-place cs kind count k p is =
    let it = reference-in cs (Array kind count) k p is in
    let e : p ≡ element kind k = at (is_ref kind && nat_lt k count) (element kind k) p is in
    ap (λ (q : FieldAt). q.offset) e ∙ ap (λ (q : Kind). first_element q + k * kind_bytes q) (ap (λ (q : FieldAt). q.kind) (sym e) ∙ it.1)
  where
    at : (b : Bool) (q p : FieldAt) → place_if b q ≡ Some p → p ≡ q
    at true q p e = sym (same_Some q p e)
    at false q p e = absurd (none-some p e)
