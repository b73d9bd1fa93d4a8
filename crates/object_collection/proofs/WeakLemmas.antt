-- Weak references that are listed one after the other.
use Rattle.std.proofs.Common.{◌≡◌, ◌≢◌, ◌∙◌, ℕ, zero, suc, ◌+◌, ◌-◌, ◌^◌, ◌<◌, ◌≤◌, Bool, true, false, List, [], ◌∷◌, ◌++◌, length, map, nat_eq, Option, Some, None, refl, sym, ap, subst, inl, inr, arith}
use Rattle.std.specs.Prelude.{◌&&◌, nat_lt, option_map}
use Rattle.std.specs.List.{IsDistinct}
use Rattle.std.proofs.lemmas.Bool.{cases_eq, cases_lt, cases_order, eqb-false, false≢true}
use Rattle.std.proofs.lemmas.List.{get_or-map, length-map}
use Rattle.std.proofs.lemmas.Map.Keys.{apart_from_distinct}
use Rattle.std.proofs.lemmas.Option.{none-some, same_Some}
use Rattle.model_numbers.specs.Numbers.{region_base}
use Rattle.class_layout.specs.declared.kind.FieldAt.{FieldAt}
use Rattle.class_layout.specs.declared.kind.Kind.{Kind}
use Rattle.class_layout.specs.declared.kind.Kind.TheVariants.{Ref}
use Rattle.class_layout.specs.ClassList.{Class}
use Rattle.class_layout.specs.Kinds.{is_ref}
use Rattle.class_layout.specs.Placing.{IsIn}
use Rattle.page_tables.specs.declared.address.Addr.{Addr}
use Rattle.cow_pages.specs.Memory.{Memory}
use Rattle.cow_pages.specs.View.{View}
use Rattle.heap_graph.specs.declared.names.Shape.{Shape}
use Rattle.heap_graph.specs.declared.names.Shape.TheVariants.{Instance, Array}
use Rattle.heap_graph.specs.Places.{element}
use Rattle.heap_graph.specs.Sizes.{size_in}
use Rattle.object_view.specs.declared.names.Slot.{Slot}
use Rattle.object_view.specs.Changes.{reads_after_all, shape_reads}
use Rattle.object_view.specs.Objects.{place_if, reference_count, reference_place}
use Rattle.object_view.proofs.Laid.{place-within, reference-in, references-rise}
use Rattle.object_view.proofs.References.{references-each, references-found}
use Rattle.raw_objects.specs.Raws.{HoldsRaws, Raws}
use Rattle.raw_objects.proofs.Turned.{rises-by}
use Rattle.raw_objects.proofs.Uncounted.{read-free}
use Rattle.object_moves.specs.Copies.{at_of}
use Rattle.object_moves.specs.Turns.{slot_of}
use Rattle.object_collection.specs.Listed.{IsWeakSlot}
use Rattle.object_collection.specs.Weaks.{Adds, AreReadable, IsWeakAmong, IsWeakIn}
use Rattle.object_collection.proofs.Growing.{adds-both, adds-more, adds-none, adds-same}

-- ONE OBJECT

-- one of the first k references of the object is weak, and stands at the address
pub record IsWeakBefore (cs : List Class) (shape : Shape) (at k b : ℕ) : Type 0 where
  pub index : ℕ
  pub before : index < k
  pub place : FieldAt
  pub is : reference_place cs shape index ≡ Some place
  pub weak_is : place.weak ≡ true
  pub at_is : b ≡ at + place.offset

module _ (cs : List Class) (shape : Shape) (at : ℕ) where
  wider : (k b : ℕ) → IsWeakBefore cs shape at k b → IsWeakBefore cs shape at (k + 1) b
  wider k b it = record { index = it.index; before = omega (arith, it.before); place = it.place; is = it.is; weak_is = it.weak_is; at_is = it.at_is }

  narrower : (k b : ℕ) → (it : IsWeakBefore cs shape at (k + 1) b) → it.index ≢ k → IsWeakBefore cs shape at k b
  narrower k b it ne = record { index = it.index; before = omega (arith, it.before, ne); place = it.place; is = it.is; weak_is = it.weak_is; at_is = it.at_is }

  pub before-none : (xs : List ℕ) → Adds (IsWeakBefore cs shape at 0) xs xs
  before-none xs = adds-none (IsWeakBefore cs shape at 0) xs (λ b it. omega (arith, it.before))

  -- a weak reference more
  pub before-weak : (k : ℕ) (p : FieldAt) (old mid : List ℕ) → reference_place cs shape k ≡ Some p → p.weak ≡ true → Adds (IsWeakBefore cs shape at k) old mid
      → Adds (IsWeakBefore cs shape at (k + 1)) old (mid ++ (at + p.offset) ∷ [])
  before-weak k p old mid is weak adds =
      adds-more (IsWeakBefore cs shape at k) (IsWeakBefore cs shape at (k + 1)) old mid (at + p.offset)
      (λ b it. elim (cases_eq it.index k) [
        | inl same ↦
            let one : p ≡ it.place = same_Some p it.place (sym is ∙ ap (reference_place cs shape) (sym same) ∙ it.is) in
            inr (ap (λ (q : FieldAt). at + q.offset) one ∙ sym it.at_is)
        | inr ne ↦ inl (narrower k b it ne)
      ])
      (λ b it. wider k b it)
      (record { index = k; before = omega arith; place = p; is = is; weak_is = weak; at_is = refl })
      (λ it. omega (arith, it.at_is, references-rise cs shape it.index k it.place p it.before it.is is))
      adds

  -- another one more
  pub before-strong : (k : ℕ) (p : FieldAt) (old new : List ℕ) → reference_place cs shape k ≡ Some p → p.weak ≡ false → Adds (IsWeakBefore cs shape at k) old new → Adds (IsWeakBefore cs shape at (k + 1)) old new
  before-strong k p old new is strong adds =
      adds-same (IsWeakBefore cs shape at k) (IsWeakBefore cs shape at (k + 1)) old new (λ b it. wider k b it)
      (λ b it. elim (cases_eq it.index k) [
        | inl same ↦
            let one : p ≡ it.place = same_Some p it.place (sym is ∙ ap (reference_place cs shape) (sym same) ∙ it.is) in
            absurd (false≢true (sym strong ∙ ap (λ (q : FieldAt). q.weak) one ∙ it.weak_is))
        | inr ne ↦ narrower k b it ne
      ])
      adds

  -- all of them
  pub before-all : (k : ℕ) (old new : List ℕ) → reference_place cs shape k ≡ None → Adds (IsWeakBefore cs shape at k) old new → Adds (IsWeakIn cs shape at) old new
  before-all k old new none adds =
      adds-same (IsWeakBefore cs shape at k) (IsWeakIn cs shape at) old new
      (λ b it. let there = reference-in cs shape it.index it.place it.is in record { place = it.place; is_in = there.0; kind_is = there.1; weak_is = it.weak_is; at_is = it.at_is })
      (λ b it.
      let found = references-found cs shape it.place it.is_in it.kind_is in
      let past : reference_count cs shape ≤ k = elim (cases_lt k (reference_count cs shape)) [ inl lt ↦ absurd (let each = references-each cs shape k lt in none-some each.0 (sym none ∙ each.1)) | inr ge ↦ ge ] in
      record { index = found.0; before = omega (arith, found.1, past); place = it.place; is = found.2; weak_is = it.weak_is; at_is = it.at_is })
      adds

-- what a class tells of a reference
pub record FoundPlace (cs : List Class) (shape : Shape) (k offset : ℕ) (weak : Bool) : Type 0 where
  pub place : FieldAt
  pub is : reference_place cs shape k ≡ Some place
  pub offset_is : offset ≡ place.offset
  pub weak_is : weak ≡ place.weak

abbrev pub told : FieldAt → ℕ × Bool
told p = (p.offset, p.weak)

pub place-found : (cs : List Class) (shape : Shape) (k : ℕ) (x : ℕ × Bool) → Some x ≡ option_map told (reference_place cs shape k) → FoundPlace cs shape k x.0 x.1
place-found cs shape k x found = by (reference_place cs shape k) refl found
  where
    by : (o : Option FieldAt) → reference_place cs shape k ≡ o → Some x ≡ option_map told o → FoundPlace cs shape k x.0 x.1
    by None is e = absurd (none-some x (sym e))
    by (Some p) is e =
        let same : x ≡ told p = same_Some x (told p) e in
        record { place = p; is = is; offset_is = ap (λ (y : ℕ × Bool). y.0) same; weak_is = ap (λ (y : ℕ × Bool). y.1) same }

pub no-place : (place : Option FieldAt) → None ≡ option_map told place → place ≡ None
no-place None e = refl
no-place (Some p) e = absurd (none-some (told p) e)

-- its address has 32 bits
pub found-fits : (cs : List Class) (shape : Shape) (at k offset : ℕ) (weak : Bool) → FoundPlace cs shape k offset weak → at + size_in cs shape ≤ 2 ^ 32 → at + offset < 2 ^ 32
found-fits cs shape at k offset weak it fits =
    let there = reference-in cs shape k it.place it.is in
    let within = place-within cs shape Ref it.place.offset it.place (record { is_in = there.0; kind_is = there.1; offset_is = refl }) in
    omega (arith, it.offset_is, within.2, fits)

-- no object has so many references
pub none-last : (cs : List Class) (shape : Shape) (at : ℕ) → at + size_in cs shape ≤ 2 ^ 32 → reference_place cs shape (2 ^ 64 - 1) ≡ None
none-last cs shape at fits = by (reference_place cs shape (2 ^ 64 - 1)) refl
  where
    by : (o : Option FieldAt) → reference_place cs shape (2 ^ 64 - 1) ≡ o → o ≡ None
    by None e = refl
    by (Some p) e =
        let there = reference-in cs shape (2 ^ 64 - 1) p e in
        let within = place-within cs shape Ref p.offset p (record { is_in = there.0; kind_is = there.1; offset_is = refl }) in
        absurd (omega (arith, rises-by cs shape (2 ^ 64 - 1) p e, within.2, fits))

-- an element isn't weak
pub array-none : (cs : List Class) (kind : Kind) (count at b : ℕ) → IsWeakIn cs (Array kind count) at b → ⊥
array-none cs kind count at b it =
    let found = references-found cs (Array kind count) it.place it.is_in it.kind_is in
    by (is_ref kind && nat_lt found.0 count) found.0 found.2
  where
    by : (t : Bool) (k : ℕ) → place_if t (element kind k) ≡ Some it.place → ⊥
    by true k e = false≢true (ap (λ (q : FieldAt). q.weak) (same_Some (element kind k) it.place e) ∙ it.weak_is)
    by false k e = none-some it.place e

-- the shape of an object from the first region on is read uncounted
pub read-uncounted : (old new : Memory) (at : ℕ) (shape : Shape) → region_base ≤ at → new ≡ record old { reads = reads_after_all old.reads (shape_reads at shape) } → new ≡ old
read-uncounted old new at shape low is = is ∙ ap (λ (n : ℕ). let it : Memory = record old { reads = n } in it) (free shape)
  where
    free : (s : Shape) → reads_after_all old.reads (shape_reads at s) ≡ old.reads
    free (Instance class) = read-free old.reads at [] low
    free (Array kind count) = read-free old.reads at ((at + 8) ∷ []) low ∙ read-free old.reads (at + 8) [] (omega (arith, low))

-- OBJECTS

-- a weak reference lies within its object
pub weak-within : (cs : List Class) (shape : Shape) (at b : ℕ) → IsWeakIn cs shape at b → (at ≤ b) × (b < at + size_in cs shape)
weak-within cs shape at b it =
    let within = place-within cs shape Ref it.place.offset it.place (record { is_in = it.is_in; kind_is = it.kind_is; offset_is = refl }) in
    (omega (arith, it.at_is), omega (arith, it.at_is, within.2))

-- two objects have no place in common
pub weak-apart : (cs : List Class) (v : View) (raws : Raws) (one other b : ℕ) → HoldsRaws cs v raws → raws.has one ≡ true → raws.has other ≡ true → one ≢ other
    → IsWeakIn cs (raws.raw one).shape one b → IsWeakIn cs (raws.raw other).shape other b → ⊥
weak-apart cs v raws one other b holds has_one has_other ne is_one is_other =
    let first = weak-within cs (raws.raw one).shape one b is_one in
    let second = weak-within cs (raws.raw other).shape other b is_other in
    elim (cases_order one other) [
      | inl same ↦ ne same
      | inr o ↦ elim o [
        | inl low ↦ omega (arith, holds.apart one other has_one has_other low, first.1, second.0)
        | inr high ↦ omega (arith, holds.apart other one has_other has_one high, second.1, first.0)
      ]
    ]

module _ (cs : List Class) (v : View) (raws : Raws) (ats : List Addr) (ok : AreReadable cs v raws ats) where
  pub among-none : (xs : List ℕ) → Adds (IsWeakAmong cs raws ats 0) xs xs
  among-none xs = adds-none (IsWeakAmong cs raws ats 0) xs (λ b it. omega (arith, it.before))

  -- an object more
  pub among-more : (i : ℕ) (old mid new : List ℕ) → i < length ats → Adds (IsWeakAmong cs raws ats i) old mid → Adds (IsWeakIn cs (raws.raw (at_of ats i)).shape (at_of ats i)) mid new
      → Adds (IsWeakAmong cs raws ats (i + 1)) old new
  among-more i old mid new below first next =
      adds-both (IsWeakAmong cs raws ats i) (IsWeakIn cs (raws.raw (at_of ats i)).shape (at_of ats i)) (IsWeakAmong cs raws ats (i + 1)) old mid new
      (λ b it. elim (cases_eq it.index i) [
        | inl same ↦ inr (subst (λ k. IsWeakIn cs (raws.raw (at_of ats k)).shape (at_of ats k) b) same it.is)
        | inr ne ↦ inl (record { index = it.index; before = omega (arith, it.before, ne); is = it.is })
      ])
      (λ b it. record { index = it.index; before = omega (arith, it.before); is = it.is })
      (λ b it. record { index = i; before = omega arith; is = it })
      (λ b it own. weak-apart cs v raws (at_of ats it.index) (at_of ats i) b ok.holds (ok.has it.index (omega (arith, it.before, below))) (ok.has i below) (ok.once it.index i it.before below) it.is own)
      first next

-- SLOTS

-- one of the first k slots is weak, and stands at the address
pub record IsWeakFirst (slots : List Slot) (k b : ℕ) : Type 0 where
  pub index : ℕ
  pub before : index < k
  pub weak_is : (slot_of slots index).weak ≡ true
  pub at_is : (slot_of slots index).at.0 ≡ b

in-index : (x : Slot) (xs : List Slot) → IsIn x xs → (i : ℕ) × (i < length xs) × (slot_of xs i ≡ x)
in-index x [] is = absurd is
in-index x (y ∷ ys) (inl same) = (0, omega arith, same)
in-index x (y ∷ ys) (inr later) = let it = in-index x ys later in (suc it.0, omega (arith, it.1), it.2)

index-in : (xs : List Slot) (i : ℕ) → i < length xs → IsIn (slot_of xs i) xs
index-in [] i below = absurd (omega (arith, below))
index-in (y ∷ ys) zero below = inl refl
index-in (y ∷ ys) (suc i) below = inr (index-in ys i (omega (arith, below)))

pub slots-none : (slots : List Slot) (xs : List ℕ) → Adds (IsWeakFirst slots 0) xs xs
slots-none slots xs = adds-none (IsWeakFirst slots 0) xs (λ b it. omega (arith, it.before))

slots-apart : (slots : List Slot) (i j : ℕ) → IsDistinct nat_eq (map (λ (slot : Slot). slot.at.0) slots) → i < j → j < length slots → (slot_of slots i).at.0 ≢ (slot_of slots j).at.0
slots-apart slots i j distinct low below =
    let d : Slot = record { at = record { 0 = 0 }; target = record { 0 = 0 }; weak = false } in
    let n = length-map slots (λ (slot : Slot). slot.at.0) in
    let apart = eqb-false _ _ (apart_from_distinct nat_eq (map (λ (slot : Slot). slot.at.0) slots) i j 0 distinct low (omega (arith, below, n))) in
    λ same. apart (get_or-map (λ (slot : Slot). slot.at.0) slots i d 0 (omega (arith, low, below)) ∙ same ∙ sym (get_or-map (λ (slot : Slot). slot.at.0) slots j d 0 below))

pub slots-weak : (slots : List Slot) (i : ℕ) (old mid : List ℕ) → IsDistinct nat_eq (map (λ (slot : Slot). slot.at.0) slots) → i < length slots → (slot_of slots i).weak ≡ true → Adds (IsWeakFirst slots i) old mid
    → Adds (IsWeakFirst slots (i + 1)) old (mid ++ (slot_of slots i).at.0 ∷ [])
slots-weak slots i old mid distinct below weak adds =
    adds-more (IsWeakFirst slots i) (IsWeakFirst slots (i + 1)) old mid (slot_of slots i).at.0
    (λ b it. elim (cases_eq it.index i) [
      | inl same ↦ inr (ap (λ k. (slot_of slots k).at.0) (sym same) ∙ it.at_is)
      | inr ne ↦ inl (record { index = it.index; before = omega (arith, it.before, ne); weak_is = it.weak_is; at_is = it.at_is })
    ])
    (λ b it. record { index = it.index; before = omega (arith, it.before); weak_is = it.weak_is; at_is = it.at_is })
    (record { index = i; before = omega arith; weak_is = weak; at_is = refl })
    (λ it. slots-apart slots it.index i distinct it.before below it.at_is)
    adds

pub slots-strong : (slots : List Slot) (i : ℕ) (old new : List ℕ) → (slot_of slots i).weak ≡ false → Adds (IsWeakFirst slots i) old new → Adds (IsWeakFirst slots (i + 1)) old new
slots-strong slots i old new strong adds =
    adds-same (IsWeakFirst slots i) (IsWeakFirst slots (i + 1)) old new
    (λ b it. record { index = it.index; before = omega (arith, it.before); weak_is = it.weak_is; at_is = it.at_is })
    (λ b it. elim (cases_eq it.index i) [
      | inl same ↦ absurd (false≢true (sym strong ∙ ap (λ k. (slot_of slots k).weak) (sym same) ∙ it.weak_is))
      | inr ne ↦ record { index = it.index; before = omega (arith, it.before, ne); weak_is = it.weak_is; at_is = it.at_is }
    ])
    adds

pub slots-all : (slots : List Slot) (k : ℕ) (old new : List ℕ) → k ≡ length slots → Adds (IsWeakFirst slots k) old new → Adds (IsWeakSlot slots) old new
slots-all slots k old new all adds =
    adds-same (IsWeakFirst slots k) (IsWeakSlot slots) old new
    (λ b it. record { slot = slot_of slots it.index; is_in = index-in slots it.index (omega (arith, it.before, all)); weak_is = it.weak_is; at_is = it.at_is })
    (λ b it.
    let found = in-index it.slot slots it.is_in in
    record { index = found.0; before = omega (arith, found.1, all); weak_is = ap (λ (s : Slot). s.weak) found.2 ∙ it.weak_is; at_is = ap (λ (s : Slot). s.at.0) found.2 ∙ it.at_is })
    adds
