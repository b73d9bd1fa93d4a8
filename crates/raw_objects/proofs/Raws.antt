-- What changes in the objects that memory holds.
use Rattle.std.proofs.Common.{◌≡◌, ◌∙◌, ℕ, ◌+◌, ◌<◌, ◌≤◌, ◌%◌, ◌^◌, Bool, true, false, cond, List, refl, sym, ap, subst, inl, inr, arith, ℤ}
use Rattle.std.specs.Prelude.{nat_eq, if◌then◌else◌, ◌||◌}
use Rattle.std.proofs.lemmas.Bool.{cases_eq, cases_order, or_cases, eq-eqb, ne_eqb, eqb-true}
use Rattle.class_layout.specs.declared.kind.Kind.{Kind}
use Rattle.class_layout.specs.declared.kind.Kind.TheVariants.{Int}
use Rattle.class_layout.specs.declared.kind.FieldAt.{FieldAt}
use Rattle.class_layout.specs.ClassList.{Class}
use Rattle.class_layout.specs.Kinds.{kind_bytes}
use Rattle.cow_pages.specs.View.{View, SameView}
use Rattle.heap_graph.specs.declared.names.Shape.{Shape}
use Rattle.heap_graph.specs.Sizes.{size_in}
use Rattle.object_view.specs.declared.names.Header.{Header}
use Rattle.object_view.specs.declared.names.Header.TheVariants.{Forward}
use Rattle.object_view.specs.Changes.{ChangesWithin, HasBytes, PutsNumber}
use Rattle.object_view.specs.Objects.{IsKnown, IsPlace, IsSpace, Stands}
use Rattle.object_view.specs.Values.{number_of}
use Rattle.object_view.specs.Words.{lock_word}
use Rattle.object_view.proofs.Laid.{place-within, size-bounds}
use Rattle.object_view.proofs.Standing.{space-kept, Stands-beside, Stands-copied, Stands-forwarded, Stands-same, Stands-seen, Stands-stored}
use Rattle.raw_objects.specs.Raws.{Raw, Raws, StandsRaw, raw_size, HoldsRaws, IsFreeSpace, SameRaw, SameRaws, changed, added, stored, stored_raw, forwarded_raw, evacuated}

-- what is said of an object, of a change at one address
pub at-here : (x y : Raw) (a at : ℕ) (P : Raw → Type 0) → a ≡ at → P x → P (if nat_eq a at then x else y)
at-here x y a at P e p = subst (λ b. P (cond b x y)) (sym (eq-eqb a at e)) p

pub at-other : (x y : Raw) (a at : ℕ) (P : Raw → Type 0) → (a ≡ at → ⊥) → P y → P (if nat_eq a at then x else y)
at-other x y a at P ne p = subst (λ b. P (cond b x y)) (sym (ne_eqb a at ne)) p

module _ (cs : List Class) (v w : View) (raws : Raws) (h : HoldsRaws cs v raws) where
  -- each object but one stands beside a change
  pub stands-others : (at from to : ℕ) → raws.has at ≡ true → ChangesWithin v w from to → at ≤ from → to ≤ at + raw_size cs raws at
      → (a : ℕ) → raws.has a ≡ true → (a ≡ at → ⊥) → StandsRaw cs w a (raws.raw a)
  stands-others at from to there changes low high a is ne =
      let r : Raw = raws.raw a in
      Stands-beside cs v w a from to r.shape r.header r.values (h.stands a is) changes
      (elim (cases_order a at) [
        | inl e ↦ absurd (ne e)
        | inr o ↦ elim o [
          | inl before ↦ inl (let it = h.apart a at is there before in omega (arith, it))
          | inr behind ↦ inr (let it = h.apart at a there is behind in omega (arith, it))
        ]
      ])

  -- an object changes in its own bytes
  pub raws-changed : (at from to : ℕ) (x : Raw) → raws.has at ≡ true → ChangesWithin v w from to → at ≤ from → to ≤ at + raw_size cs raws at
      → x.shape ≡ (raws.raw at).shape → StandsRaw cs w at x → HoldsRaws cs w (changed raws at x)
  raws-changed at from to x there changes low high shape stands =
      let size : (a : ℕ) → (if nat_eq a at then x else raws.raw a).shape ≡ (raws.raw a).shape = λ a. elim (cases_eq a at) [
        | inl e ↦ at-here x (raws.raw a) a at (λ r. r.shape ≡ (raws.raw a).shape) e (shape ∙ ap (λ b. (raws.raw b).shape) (sym e))
        | inr ne ↦ at-other x (raws.raw a) a at (λ r. r.shape ≡ (raws.raw a).shape) ne refl
      ] in
      record {
        known = λ a is. subst (IsKnown cs) (sym (size a)) (h.known a is);
        stands = λ a is. elim (cases_eq a at) [
          | inl e ↦ at-here x (raws.raw a) a at (StandsRaw cs w a) e (subst (λ b. StandsRaw cs w b x) (sym e) stands)
          | inr ne ↦ at-other x (raws.raw a) a at (StandsRaw cs w a) ne (stands-others at from to there changes low high a is ne)
        ];
        apart = λ a b is is' lt. subst (λ (s : Shape). a + size_in cs s ≤ b) (sym (size a)) (h.apart a b is is' lt);
      }

  -- a value of an object is stored
  pub raws-stored : (at : ℕ) (kind : Kind) (offset : ℕ) (place : FieldAt) (z : ℤ) → raws.has at ≡ true → IsPlace cs (raws.raw at).shape kind offset place
      → PutsNumber v w kind (at + offset) (number_of kind z) → HoldsRaws cs w (stored raws at offset z)
  raws-stored at kind offset place z there is puts =
      let r : Raw = raws.raw at in
      let within = place-within cs r.shape kind offset place is in
      raws-changed at (at + offset) (at + offset + kind_bytes kind) (stored_raw r offset z) there puts.rest (omega arith) (omega (arith, within.2)) refl
      (Stands-stored cs v w at r.shape r.header r.values kind offset place z (h.stands at there) is puts)

  -- an object tells where it went
  pub raws-forwarded : (at to : ℕ) → raws.has at ≡ true → to % 8 ≡ 0 → to < 2 ^ 32 → PutsNumber v w Int (at + 4) (lock_word (Forward (record { 0 = to })))
      → HoldsRaws cs w (changed raws at (forwarded_raw (raws.raw at) to))
  raws-forwarded at to there multiple below puts =
      let r : Raw = raws.raw at in
      let bounds = size-bounds cs r.shape in
      raws-changed at (at + 4) (at + 4 + 4) (forwarded_raw r to) there puts.rest (omega arith) (omega (arith, bounds.0, bounds.1, bounds.2)) refl
      (Stands-forwarded cs v w at r.shape r.header r.values (record { 0 = to }) (h.stands at there) multiple below puts)

  -- an object more, in bytes that no object has
  pub raws-added : (at : ℕ) (x : Raw) → IsFreeSpace cs raws at (size_in cs x.shape) → ChangesWithin v w at (at + size_in cs x.shape) → IsKnown cs x.shape → StandsRaw cs w at x
      → HoldsRaws cs w (added raws at x)
  raws-added at x free changes known stands =
      let low = size-bounds cs x.shape in
      let was : (a : ℕ) → (a ≡ at → ⊥) → (nat_eq a at || raws.has a) ≡ true → raws.has a ≡ true = λ a ne is. elim (or_cases (nat_eq a at) (raws.has a) is) [
        | inl e ↦ absurd (ne (eqb-true a at e))
        | inr it ↦ it
      ] in
      record {
        known = λ a is. elim (cases_eq a at) [
          | inl e ↦ at-here x (raws.raw a) a at (λ r. IsKnown cs r.shape) e known
          | inr ne ↦ at-other x (raws.raw a) a at (λ r. IsKnown cs r.shape) ne (h.known a (was a ne is))
        ];
        stands = λ a is. elim (cases_eq a at) [
          | inl e ↦ at-here x (raws.raw a) a at (StandsRaw cs w a) e (subst (λ b. StandsRaw cs w b x) (sym e) stands)
          | inr ne ↦ at-other x (raws.raw a) a at (StandsRaw cs w a) ne
              (let r : Raw = raws.raw a in Stands-beside cs v w a at (at + size_in cs x.shape) r.shape r.header r.values (h.stands a (was a ne is)) changes (free a (was a ne is)))
        ];
        apart = λ a b is is' lt. elim (cases_eq a at) [
          | inl e ↦ at-here x (raws.raw a) a at (λ r. a + size_in cs r.shape ≤ b) e
              (let ne : b ≡ at → ⊥ = λ same. omega arith in
              elim (free b (was b ne is')) [ inl before ↦ absurd (let bs = size-bounds cs (raws.raw b).shape in omega (arith, bs.0, bs.1, bs.2)) | inr behind ↦ omega arith ])
          | inr ne ↦ at-other x (raws.raw a) a at (λ r. a + size_in cs r.shape ≤ b) ne (elim (cases_eq b at) [
            | inl e ↦ elim (free a (was a ne is)) [ inl before ↦ omega arith | inr behind ↦ absurd (omega (arith, low.0, low.1, low.2)) ]
            | inr other ↦ h.apart a b (was a ne is) (was b other is') lt
          ])
        ];
      }

  -- an object is copied into bytes that no object has
  pub raws-copied : (from to : ℕ) → raws.has from ≡ true → to % 8 ≡ 0 → IsSpace w to (raw_size cs raws from) → IsFreeSpace cs raws to (raw_size cs raws from)
      → HasBytes v w from to (raw_size cs raws from) → ChangesWithin v w to (to + raw_size cs raws from) → HoldsRaws cs w (added raws to (raws.raw from))
  raws-copied from to there multiple space free same changes =
      let r : Raw = raws.raw from in
      raws-added to r free changes (h.known from there) (Stands-copied cs v w from to r.shape r.header r.values (h.stands from there) multiple space same)

  -- bytes changed that no object has
  pub raws-beside : (at size : ℕ) → IsFreeSpace cs raws at size → ChangesWithin v w at (at + size) → HoldsRaws cs w raws
  raws-beside at size free changes = record {
    known = h.known;
    stands = λ a is. let r : Raw = raws.raw a in Stands-beside cs v w a at (at + size) r.shape r.header r.values (h.stands a is) changes (free a is);
    apart = h.apart;
  }

  -- nothing changed but the count of reads
  pub raws-seen : SameView v w → HoldsRaws cs w raws
  raws-seen same = record {
    known = h.known;
    stands = λ a is. let r : Raw = raws.raw a in Stands-seen cs v w a r.shape r.header r.values (h.stands a is) same;
    apart = h.apart;
  }

-- an object is copied into bytes that no object has, and its header tells so
pub raws-evacuated : (cs : List Class) (u v w : View) (raws : Raws) (from to : ℕ) → HoldsRaws cs u raws → raws.has from ≡ true → to % 8 ≡ 0
    → IsSpace u to (raw_size cs raws from) → IsFreeSpace cs raws to (raw_size cs raws from)
    → HasBytes u v from to (raw_size cs raws from) → ChangesWithin u v to (to + raw_size cs raws from)
    → PutsNumber v w Int (from + 4) (lock_word (Forward (record { 0 = to }))) → HoldsRaws cs w (evacuated raws from to)
raws-evacuated cs u v w raws from to h there multiple space free same changes puts =
    let size : ℕ = raw_size cs raws from in
    let bounds = size-bounds cs (raws.raw from).shape in
    let below : to < 2 ^ 32 = omega (arith, space.below, bounds.0, bounds.1, bounds.2) in
    let ne : from ≡ to → ⊥ = λ e. elim (free from there) [ inl x ↦ omega (arith, bounds.0, bounds.1, bounds.2) | inr x ↦ omega (arith, bounds.0, bounds.1, bounds.2) ] in
    let both : Raws = added raws to (raws.raw from) in
    let mid : HoldsRaws cs v both = raws-copied cs u v raws h from to there multiple (space-kept u v to size changes.mapped space) free same changes in
    let has : both.has from ≡ true = ap (λ b. nat_eq from to || b) there ∙ true-right (nat_eq from to) in
    let old : both.raw from ≡ raws.raw from = at-other (raws.raw from) (raws.raw from) from to (λ r. r ≡ raws.raw from) ne refl in
    subst (λ r. HoldsRaws cs w (changed both from (forwarded_raw r to))) old (raws-forwarded cs v w both mid from to has multiple below puts)
  where
    true-right : (b : Bool) → (b || true) ≡ true
    true-right true = refl
    true-right false = refl

-- the same, with the size as a number of its own
pub raws-evacuated-by : (cs : List Class) (u v w : View) (raws : Raws) (from to size : ℕ) → HoldsRaws cs u raws → raws.has from ≡ true → raw_size cs raws from ≡ size → to % 8 ≡ 0
    → IsSpace u to size → IsFreeSpace cs raws to size → HasBytes u v from to size → ChangesWithin u v to (to + size)
    → PutsNumber v w Int (from + 4) (lock_word (Forward (record { 0 = to }))) → HoldsRaws cs w (evacuated raws from to)
raws-evacuated-by cs u v w raws from to size h there size_is multiple space free same changes puts =
    subst (λ s. IsSpace u to s → IsFreeSpace cs raws to s → HasBytes u v from to s → ChangesWithin u v to (to + s) → HoldsRaws cs w (evacuated raws from to)) size_is
    (λ space' free' same' changes'. raws-evacuated cs u v w raws from to h there multiple space' free' same' changes' puts)
    space free same changes

-- an object whose copy was written, but whose header was not
pub raws-unmoved : (cs : List Class) (u v w : View) (raws : Raws) (to size : ℕ) → HoldsRaws cs u raws → IsFreeSpace cs raws to size → ChangesWithin u v to (to + size) → SameView v w → HoldsRaws cs w raws
raws-unmoved cs u v w raws to size h free changes same = raws-seen cs v w raws (raws-beside cs u v raws h to size free changes) same

-- the same object stands
pub same-stands : (cs : List Class) (v : View) (a : ℕ) (r s : Raw) → SameRaw cs r s → StandsRaw cs v a r → StandsRaw cs v a s
same-stands cs v a r s same stands =
    let it : Stands cs v a r.shape r.header s.values = Stands-same cs v a r.shape r.header r.values s.values stands same.values in
    subst (λ (t : Shape). Stands cs v a t s.header s.values) (sym same.shape)
    (subst (λ (t : Header). Stands cs v a r.shape t s.values) (sym same.header) it)

-- the same objects are held
pub raws-same : (cs : List Class) (v : View) (old new : Raws) → HoldsRaws cs v old → SameRaws cs old new → HoldsRaws cs v new
raws-same cs v old new h s = record {
  known = λ a is. let was : old.has a ≡ true = sym (s.has a) ∙ is in subst (IsKnown cs) (sym (s.raw a was).shape) (h.known a was);
  stands = λ a is. let was : old.has a ≡ true = sym (s.has a) ∙ is in same-stands cs v a (old.raw a) (new.raw a) (s.raw a was) (h.stands a was);
  apart = λ a b is is' lt.
      let was : old.has a ≡ true = sym (s.has a) ∙ is in
      subst (λ (t : Shape). a + size_in cs t ≤ b) (sym (s.raw a was).shape) (h.apart a b was (sym (s.has b) ∙ is') lt);
}
