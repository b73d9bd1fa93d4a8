-- Objects that stand, and what a change of memory leaves of them.
use Rattle.std.proofs.Common.{cond, false, map, length-append, slice_get, ◌++◌, ◌≡◌, ◌⊎◌, ◌∙◌, ℕ, ◌+◌, ◌%◌, ◌^◌, ◌<◌, ◌≤◌, List, [], ◌∷◌, refl, sym, ap, subst, inl, inr, arith, ℤ}
use Rattle.std.specs.List.{AllByRecursion}
use Rattle.std.proofs.lemmas.Bool.{eq-eqb, ne_eqb}
use Rattle.class_layout.specs.Placing.{IsIn}
use Rattle.page_tables.specs.declared.address.Addr.{Addr}
use Rattle.object_view.specs.declared.names.Header.TheVariants.{Forward}
use Rattle.class_layout.specs.declared.kind.Kind.{Kind}
use Rattle.class_layout.specs.declared.kind.Kind.TheVariants.{Int}
use Rattle.class_layout.specs.declared.kind.FieldAt.{FieldAt}
use Rattle.class_layout.specs.ClassList.{Class}
use Rattle.class_layout.specs.Kinds.{kind_bytes, next_multiple}
use Rattle.class_layout.specs.Layout.{references, Laid, Placed}
use Rattle.class_layout.proofs.Layouts.{layout_of-push_old}
use Rattle.cow_pages.specs.View.{u32_at, SameView, View}
use Rattle.heap_graph.specs.declared.names.Shape.{Shape}
use Rattle.heap_graph.specs.declared.names.Shape.TheVariants.{Instance, Array}
use Rattle.heap_graph.specs.Sizes.{size_in, unrounded}
use Rattle.object_view.specs.declared.names.Header.{Header}
use Rattle.object_view.specs.Changes.{ChangesWithin, HasBytes, PutsNumber}
use Rattle.heap_graph.specs.Places.{places_of}
use Rattle.object_view.specs.Objects.{is_in_value, reference_place, IsKnown, IsPlace, IsSpace, HasShape, HasHeader, Stands}
use Rattle.object_view.specs.Values.{number_at, number_of, no_values, with_value}
use Rattle.object_view.specs.Words.{head_end, class_word, lock_word, HasLength, IsHeader}
use Rattle.object_view.proofs.Numbers.{number-same, number-zero}
use Rattle.heap_graph.proofs.Places.{AreLaid, bytes-low, laid-in}
use Rattle.object_view.proofs.Laid.{beside-place, all-laid, all-places, places-laid, size-bounds}

-- a part of a space is a space
pub space-part : (v : View) (at size part : ℕ) → part ≤ size → IsSpace v at size → IsSpace v at part
space-part v at size part le space = record { below = omega (arith, space.below); mapped = λ i below. space.mapped i (omega arith) }

module _ (v w : View) (from to size : ℕ) (same : HasBytes v w from to size) where
  -- a number that lies in what was copied
  number-copied : (kind : Kind) (offset : ℕ) → offset + kind_bytes kind ≤ size → number_at w kind (to + offset) ≡ number_at v kind (from + offset)
  number-copied kind offset within =
      number-same v w kind (from + offset) (to + offset) (λ i below.
      ap w.byte (let e : to + offset + i ≡ to + (offset + i) = omega arith in e) ∙ same (offset + i) (omega arith)
      ∙ ap v.byte (let e : from + (offset + i) ≡ from + offset + i = omega arith in e))

  word-copied : (offset : ℕ) → offset + 4 ≤ size → u32_at w (to + offset) ≡ u32_at v (from + offset)
  word-copied offset within = number-copied Int offset within

  first-copied : 4 ≤ size → u32_at w to ≡ u32_at v from
  first-copied within = number-same v w Int from to (λ i below. same i (omega arith))

  length-copied : (shape : Shape) → head_end shape ≤ size → HasLength v from shape → HasLength w to shape
  length-copied (Instance class) within is = tt
  length-copied (Array kind count) within is = word-copied 8 (omega arith) ∙ is

-- an object stands where its bytes are
pub Stands-copied : (cs : List Class) (v w : View) (from to : ℕ) (shape : Shape) (header : Header) (values : FieldAt → ℤ) → Stands cs v from shape header values
    → to % 8 ≡ 0 → IsSpace w to (size_in cs shape) → HasBytes v w from to (size_in cs shape) → Stands cs w to shape header values
Stands-copied cs v w from to shape header values s aligned space same =
    let size = size_in cs shape in
    let bounds = size-bounds cs shape in
    record {
      aligned = aligned;
      space = space;
      header_fits = s.header_fits;
      class_is = first-copied v w from to size same (omega (arith, bounds.0, bounds.1, bounds.2)) ∙ s.class_is;
      lock_is = word-copied v w from to size same 4 (omega (arith, bounds.0, bounds.1, bounds.2)) ∙ s.lock_is;
      length_is = length-copied v w from to size same shape (omega (arith, bounds.0, bounds.1)) s.length_is;
      numbers = all-laid (λ p. number_at v p.kind (from + p.offset) ≡ number_of p.kind (values p)) (λ p. number_at w p.kind (to + p.offset) ≡ number_of p.kind (values p))
          (head_end shape) (unrounded cs shape) (places_of cs shape) (places-laid cs shape) s.numbers
          (λ p low high is. number-copied v w from to size same p.kind p.offset (omega (arith, high, bounds.1)) ∙ is);
      zeros = λ i low high none. same i high ∙ s.zeros i low high none;
    }

-- what was mapped is
pub space-kept : (v w : View) (at size : ℕ) → ((b : ℕ) → w.mapped b ≡ v.mapped b) → IsSpace v at size → IsSpace w at size
space-kept v w at size same space = record { below = space.below; mapped = λ i below. same (at + i) ∙ space.mapped i below }

-- an object beside what changed
pub Stands-beside : (cs : List Class) (v w : View) (at from to : ℕ) (shape : Shape) (header : Header) (values : FieldAt → ℤ) → Stands cs v at shape header values
    → ChangesWithin v w from to → (at + size_in cs shape ≤ from) ⊎ (to ≤ at) → Stands cs w at shape header values
Stands-beside cs v w at from to shape header values s changes beside =
    Stands-copied cs v w at at shape header values s s.aligned (space-kept v w at (size_in cs shape) changes.mapped s.space)
    (λ i below. changes.others (at + i) (elim beside [ inl before ↦ inl (omega arith) | inr behind ↦ inr (omega arith) ]))

-- an object in a table that is seen as it was
pub Stands-seen : (cs : List Class) (v w : View) (at : ℕ) (shape : Shape) (header : Header) (values : FieldAt → ℤ) → Stands cs v at shape header values → SameView v w → Stands cs w at shape header values
Stands-seen cs v w at shape header values s same =
    Stands-copied cs v w at at shape header values s s.aligned (space-kept v w at (size_in cs shape) same.mapped s.space) (λ i below. same.byte (at + i))

-- a number beside what changed
pub number-beside : (v w : View) (from to : ℕ) (kind : Kind) (at : ℕ) → ChangesWithin v w from to → (at + kind_bytes kind ≤ from) ⊎ (to ≤ at) → number_at w kind at ≡ number_at v kind at
number-beside v w from to kind at changes beside =
    number-same v w kind at at (λ i below. changes.others (at + i) (elim beside [ inl before ↦ inl (omega arith) | inr behind ↦ inr (omega arith) ]))

-- the value that was stored, and the others
stored-here : (values : FieldAt → ℤ) (offset : ℕ) (z : ℤ) (p : FieldAt) → p.offset ≡ offset → with_value values offset z p ≡ z
stored-here values offset z p is = ap (λ b. cond b z (values p)) (eq-eqb p.offset offset is)

stored-other : (values : FieldAt → ℤ) (offset : ℕ) (z : ℤ) (p : FieldAt) → (p.offset ≡ offset → ⊥) → with_value values offset z p ≡ values p
stored-other values offset z p apart = ap (λ b. cond b z (values p)) (ne_eqb p.offset offset apart)

module _ (v w : View) (at : ℕ) (values : FieldAt → ℤ) (z : ℤ) (place : FieldAt) (puts : PutsNumber v w place.kind (at + place.offset) (number_of place.kind z)) where
  abbrev WasThere : FieldAt → Type 0
  WasThere p = number_at v p.kind (at + p.offset) ≡ number_of p.kind (values p)

  abbrev IsThere : FieldAt → Type 0
  IsThere p = number_at w p.kind (at + p.offset) ≡ number_of p.kind (with_value values place.offset z p)

  there-here : (p : FieldAt) → p ≡ place → IsThere p
  there-here p is = subst IsThere (sym is) (puts.there ∙ ap (number_of place.kind) (sym (stored-here values place.offset z place refl)))

  there-other : (p : FieldAt) → (p.offset + kind_bytes p.kind ≤ place.offset) ⊎ (place.offset + kind_bytes place.kind ≤ p.offset) → WasThere p → IsThere p
  there-other p beside was =
      let one = bytes-low place.kind in
      let other = bytes-low p.kind in
      let apart : p.offset ≡ place.offset → ⊥ = λ same. elim beside [ inl before ↦ omega arith | inr behind ↦ omega arith ] in
      let off : (at + p.offset + kind_bytes p.kind ≤ at + place.offset) ⊎ (at + place.offset + kind_bytes place.kind ≤ at + p.offset) =
      elim beside [ inl before ↦ inl (omega arith) | inr behind ↦ inr (omega arith) ] in
      number-beside v w (at + place.offset) (at + place.offset + kind_bytes place.kind) p.kind (at + p.offset) puts.rest off
      ∙ was ∙ ap (number_of p.kind) (sym (stored-other values place.offset z p apart))

  all-other : (low high : ℕ) (ps : List FieldAt) → AreLaid low high ps → place.offset + kind_bytes place.kind ≤ low → AllByRecursion WasThere ps → AllByRecursion IsThere ps
  all-other low high ps laid behind was = all-laid WasThere IsThere low high ps laid was (λ p low' high'. there-other p (inr (omega arith)))

  all-stored : (low high : ℕ) (ps : List FieldAt) → AreLaid low high ps → IsIn place ps → AllByRecursion WasThere ps → AllByRecursion IsThere ps
  all-stored low high [] laid there was = absurd there
  all-stored low high (p ∷ ps) laid (inl same) was =
      (there-here p same, all-other (p.offset + kind_bytes p.kind) high ps laid.2 (subst (λ (q : FieldAt). q.offset + kind_bytes q.kind ≤ p.offset + kind_bytes p.kind) same (omega arith)) was.1)
  all-stored low high (p ∷ ps) laid (inr there) was =
      let lies = laid-in (p.offset + kind_bytes p.kind) high ps place laid.2 there in
      (there-other p (inl lies.0) was.0, all-stored (p.offset + kind_bytes p.kind) high ps laid.2 there was.1)

length-beside : (v w : View) (at from to : ℕ) (shape : Shape) → ChangesWithin v w from to → (at + head_end shape ≤ from) ⊎ (to ≤ at + 8) → HasLength v at shape → HasLength w at shape
length-beside v w at from to (Instance class) changes beside is = tt
length-beside v w at from to (Array kind count) changes beside is =
    number-beside v w from to Int (at + 8) changes (elim beside [ inl before ↦ inl (omega arith) | inr behind ↦ inr (omega arith) ]) ∙ is

-- an object with one value stored
pub Stands-stored : (cs : List Class) (v w : View) (at : ℕ) (shape : Shape) (header : Header) (values : FieldAt → ℤ) (kind : Kind) (offset : ℕ) (place : FieldAt) (z : ℤ)
    → Stands cs v at shape header values → IsPlace cs shape kind offset place → PutsNumber v w kind (at + offset) (number_of kind z)
    → Stands cs w at shape header (with_value values offset z)
Stands-stored cs v w at shape header values kind offset place z s is puts =
    let from : ℕ = at + place.offset in
    let to : ℕ = at + place.offset + kind_bytes place.kind in
    let bounds = size-bounds cs shape in
    let lies = laid-in (head_end shape) (unrounded cs shape) (places_of cs shape) place (places-laid cs shape) is.is_in in
    subst (λ o. Stands cs w at shape header (with_value values o z)) is.offset_is
    (record {
      aligned = s.aligned;
      space = space-kept v w at (size_in cs shape) put.rest.mapped s.space;
      header_fits = s.header_fits;
      class_is = number-beside v w from to Int at put.rest (inl (omega (arith, lies.0, bounds.2))) ∙ s.class_is;
      lock_is = number-beside v w from to Int (at + 4) put.rest (inl (omega (arith, lies.0, bounds.2))) ∙ s.lock_is;
      length_is = length-beside v w at from to shape put.rest (inl (omega (arith, lies.0))) s.length_is;
      numbers = all-stored v w at values z place put (head_end shape) (unrounded cs shape) (places_of cs shape) (places-laid cs shape) is.is_in s.numbers;
      zeros = λ i low high none. put.rest.others (at + i) (beside i (beside-place (places_of cs shape) place i is.is_in none)) ∙ s.zeros i low high none;
    })
  where
    put : PutsNumber v w place.kind (at + place.offset) (number_of place.kind z)
    put =
        subst (λ (k : Kind). PutsNumber v w k (at + place.offset) (number_of k z)) (sym is.kind_is)
        (subst (λ o. PutsNumber v w kind (at + o) (number_of kind z)) (sym is.offset_is) puts)

    beside : (i : ℕ) → (i < place.offset) ⊎ (place.offset + kind_bytes place.kind ≤ i) → (at + i < at + place.offset) ⊎ (at + place.offset + kind_bytes place.kind ≤ at + i)
    beside i (inl before) = inl (omega arith)
    beside i (inr behind) = inr (omega arith)

-- an object that is forwarded
pub Stands-forwarded : (cs : List Class) (v w : View) (at : ℕ) (shape : Shape) (header : Header) (values : FieldAt → ℤ) (to : Addr)
    → Stands cs v at shape header values → to.0 % 8 ≡ 0 → to.0 < 2 ^ 32 → PutsNumber v w Int (at + 4) (lock_word (Forward to))
    → Stands cs w at shape (Forward to) values
Stands-forwarded cs v w at shape header values to s multiple small puts =
    let bounds = size-bounds cs shape in
    record {
      aligned = s.aligned;
      space = space-kept v w at (size_in cs shape) puts.rest.mapped s.space;
      header_fits = (multiple, small);
      class_is = number-beside v w (at + 4) (at + 4 + 4) Int at puts.rest (inl (omega arith)) ∙ s.class_is;
      lock_is = puts.there;
      length_is = length-beside v w at (at + 4) (at + 4 + 4) shape puts.rest (inr (omega arith)) s.length_is;
      numbers = all-laid (λ p. number_at v p.kind (at + p.offset) ≡ number_of p.kind (values p)) (λ p. number_at w p.kind (at + p.offset) ≡ number_of p.kind (values p))
          (head_end shape) (unrounded cs shape) (places_of cs shape) (places-laid cs shape) s.numbers
          (λ p low high is. number-beside v w (at + 4) (at + 4 + 4) p.kind (at + p.offset) puts.rest (inr (omega (arith, low, bounds.2))) ∙ is);
      zeros = λ i low high none. puts.rest.others (at + i) (inr (omega (arith, low, bounds.2))) ∙ s.zeros i low high none;
    }

-- what holds of places gives what holds of them, given that they are places
all-within : (P Q : FieldAt → Type 0) (ps : List FieldAt) → AllByRecursion P ps → ((p : FieldAt) → IsIn p ps → P p → Q p) → AllByRecursion Q ps
all-within P Q [] all step = tt
all-within P Q (p ∷ ps) all step = (step p (inl refl) all.0, all-within P Q ps all.1 (λ q there. step q (inr there)))

-- an object with other values that are the same at its places
pub Stands-same : (cs : List Class) (v : View) (at : ℕ) (shape : Shape) (header : Header) (values others : FieldAt → ℤ) → Stands cs v at shape header values
    → ((p : FieldAt) → IsIn p (places_of cs shape) → others p ≡ values p) → Stands cs v at shape header others
Stands-same cs v at shape header values others s same = record {
  aligned = s.aligned;
  space = s.space;
  header_fits = s.header_fits;
  class_is = s.class_is;
  lock_is = s.lock_is;
  length_is = s.length_is;
  numbers = all-within (λ p. number_at v p.kind (at + p.offset) ≡ number_of p.kind (values p)) (λ p. number_at v p.kind (at + p.offset) ≡ number_of p.kind (others p))
      (places_of cs shape) s.numbers (λ p there is. is ∙ ap (number_of p.kind) (sym (same p there)));
  zeros = s.zeros;
}

-- an object under other classes that give its shape the same places and the same size
pub Stands-classes : (cs ds : List Class) (v : View) (at : ℕ) (shape : Shape) (header : Header) (values : FieldAt → ℤ) → size_in ds shape ≡ size_in cs shape → places_of ds shape ≡ places_of cs shape
    → Stands cs v at shape header values → Stands ds v at shape header values
Stands-classes cs ds v at shape header values size places s = record {
  aligned = s.aligned;
  space = subst (IsSpace v at) (sym size) s.space;
  header_fits = s.header_fits;
  class_is = s.class_is;
  lock_is = s.lock_is;
  length_is = s.length_is;
  numbers = subst (AllByRecursion (λ p. number_at v p.kind (at + p.offset) ≡ number_of p.kind (values p))) (sym places) s.numbers;
  zeros = λ i low high none. s.zeros i low (subst (λ n. i < n) size high) (subst (λ ps. is_in_value ps i ≡ false) places none);
}

-- what a shape is under more classes
pub size-more : (cs more : List Class) (shape : Shape) → IsKnown cs shape → size_in (cs ++ more) shape ≡ size_in cs shape
size-more cs more (Instance class) known = ap (λ (l : Laid). next_multiple 8 l.end) (layout_of-push_old cs more class known)
size-more cs more (Array kind count) known = refl

pub places-more : (cs more : List Class) (shape : Shape) → IsKnown cs shape → places_of (cs ++ more) shape ≡ places_of cs shape
places-more cs more (Instance class) known = ap (λ (l : Laid). map (λ (p : Placed). p.at) l.fields) (layout_of-push_old cs more class known)
places-more cs more (Array kind count) known = refl

pub known-more : (cs more : List Class) (shape : Shape) → IsKnown cs shape → IsKnown (cs ++ more) shape
known-more cs more (Instance class) known = omega (arith, known, length-append cs more)
known-more cs more (Array kind count) known = tt

pub references-more : (cs more : List Class) (shape : Shape) (k : ℕ) → IsKnown cs shape → reference_place (cs ++ more) shape k ≡ reference_place cs shape k
references-more cs more (Instance class) k known = ap (λ (l : Laid). slice_get (references l) k) (layout_of-push_old cs more class known)
references-more cs more (Array kind count) k known = refl

-- an object has its shape and its header
pub HasShape-stands : (cs : List Class) (v : View) (at : ℕ) (shape : Shape) (header : Header) (values : FieldAt → ℤ) → Stands cs v at shape header values → HasShape v at shape
HasShape-stands cs v at shape header values s =
    let bounds = size-bounds cs shape in
    record { aligned = s.aligned; space = space-part v at (size_in cs shape) (head_end shape) (omega (arith, bounds.0, bounds.1)) s.space; class_is = s.class_is; length_is = s.length_is }

pub HasHeader-stands : (cs : List Class) (v : View) (at : ℕ) (shape : Shape) (header : Header) (values : FieldAt → ℤ) → Stands cs v at shape header values → HasHeader v at header
HasHeader-stands cs v at shape header values s =
    let bounds = size-bounds cs shape in
    record { aligned = s.aligned; space = space-part v at (size_in cs shape) 8 (omega (arith, bounds.0, bounds.1, bounds.2)) s.space; header_fits = s.header_fits; lock_is = s.lock_is }

-- a new object: its words, and zeros behind them
pub Stands-new : (cs : List Class) (v : View) (at : ℕ) (shape : Shape) (header : Header) → at % 8 ≡ 0 → IsSpace v at (size_in cs shape) → IsHeader header → u32_at v at ≡ class_word shape
    → u32_at v (at + 4) ≡ lock_word header → HasLength v at shape → ((i : ℕ) → head_end shape ≤ i → i < size_in cs shape → v.byte (at + i) ≡ 0) → Stands cs v at shape header no_values
Stands-new cs v at shape header aligned space fits class lock length none =
    let bounds = size-bounds cs shape in
    record {
      aligned = aligned;
      space = space;
      header_fits = fits;
      class_is = class;
      lock_is = lock;
      length_is = length;
      numbers = all-places (λ p. number_at v p.kind (at + p.offset) ≡ number_of p.kind (no_values p)) (head_end shape) (unrounded cs shape) (places_of cs shape) (places-laid cs shape)
          (λ p low high. number-zero v p.kind (at + p.offset) (λ i below.
          ap v.byte (let e : at + p.offset + i ≡ at + (p.offset + i) = omega arith in e) ∙ none (p.offset + i) (omega (arith, low)) (omega (arith, high, bounds.1))));
      zeros = λ i low high other. none i low high;
    }
