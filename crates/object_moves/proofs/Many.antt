-- References of many objects that are turned, one object after the other.
use Rattle.std.proofs.Common.{◌≡◌, ◌∙◌, ℕ, zero, suc, ◌+◌, ◌%◌, ◌<◌, ◌≤◌, Bool, true, false, List, [], ◌∷◌, ◌++◌, Option, Some, None, IsTrue, refl, sym, ap, subst, inl, inr, arith, length, map, take, drop, get_or, nat_eq}
use Rattle.std.specs.Prelude.{◌||◌}
use Rattle.std.specs.List.{list_any, sum_by}
use Rattle.std.proofs.lemmas.Bool.{cases_Bool, cases_eq, cases_order, eq-eqb, eqb-true, or_cases, or_left, or_right, true≢false}
use Rattle.std.proofs.lemmas.List.{drop_more, get_or_at, length-map, length-take-le}
use Rattle.std.proofs.lemmas.List.Folds.{list_any-append}
use Rattle.std.proofs.lemmas.List.Sums.{sum_by-cons, sum_by_more}
use Rattle.std.proofs.Math.Seq.{take-suc}
use Rattle.class_layout.specs.declared.kind.Kind.TheVariants.{Ref}
use Rattle.class_layout.specs.declared.kind.FieldAt.{FieldAt}
use Rattle.class_layout.specs.ClassList.{Class}
use Rattle.class_layout.specs.Placing.{IsIn}
use Rattle.page_tables.specs.declared.address.Addr.{Addr}
use Rattle.page_tables.specs.Address.{page_of}
use Rattle.cow_pages.specs.Memory.{Memory, is_mapped}
use Rattle.cow_pages.specs.View.{View, view_of}
use Rattle.heap_graph.specs.declared.names.Shape.{Shape}
use Rattle.heap_graph.specs.Sizes.{size_in}
use Rattle.heap_graph.specs.Places.{places_of}
use Rattle.object_view.specs.declared.names.Slot.{Slot}
use Rattle.object_view.specs.Changes.{pages_in, AreAlone}
use Rattle.object_view.specs.Objects.{reference_count, reference_place}
use Rattle.object_view.proofs.Laid.{place-within, reference-in, size-bounds}
use Rattle.object_view.proofs.Rises.{rose-both}
use Rattle.object_view.specs.Seen.{RoseBy}
use Rattle.object_view.proofs.References.{references-found}
use Rattle.raw_objects.specs.Keeps.{Keeps}
use Rattle.raw_objects.specs.Raws.{raw_size, HoldsRaws, Raws}
use Rattle.raw_objects.specs.References.{is_first_reference, is_reference, stands_at, turned_where, IsTurnable}
use Rattle.raw_objects.proofs.Kept.{space-page}
use Rattle.raw_objects.proofs.Raws.{raws-same}
use Rattle.raw_objects.proofs.Turned.{same-turned, slot-place}
use Rattle.object_moves.specs.Copies.{at_of, sizes_at}
use Rattle.object_moves.specs.Turns.{gone_to, is_reference_at, is_reference_of, is_slot_of, reads_to_turn, slot_of, AreSlotsIn, AreTurnable, ObjectsAlone}

-- WHERE REFERENCES STAND

-- a reference of an object stands behind its words and within it
first-within : (cs : List Class) (shape : Shape) (at k b : ℕ) → is_first_reference cs shape at k b ≡ true → (at + 8 ≤ b) × (b + 4 ≤ at + size_in cs shape)
first-within cs shape at zero b is = absurd (true≢false (sym is))
first-within cs shape at (suc k) b is = elim (or_cases (stands_at (reference_place cs shape k) at b) (is_first_reference cs shape at k b) is) [
  | inl here ↦ by (reference_place cs shape k) refl here
  | inr before ↦ first-within cs shape at k b before
]
  where
    by : (o : Option FieldAt) → reference_place cs shape k ≡ o → stands_at o at b ≡ true → (at + 8 ≤ b) × (b + 4 ≤ at + size_in cs shape)
    by None e never = absurd (true≢false (sym never))
    by (Some p) e here =
        let there = reference-in cs shape k p e in
        let within = place-within cs shape Ref p.offset p (record { is_in = there.0; kind_is = there.1; offset_is = refl }) in
        let head = size-bounds cs shape in
        let same : at + p.offset ≡ b = eqb-true (at + p.offset) b here in
        (omega (arith, same, within.0, head.2), omega (arith, same, within.2))

pub reference-within : (cs : List Class) (shape : Shape) (at b : ℕ) → is_reference cs shape at b ≡ true → (at + 8 ≤ b) × (b + 4 ≤ at + size_in cs shape)
reference-within cs shape at b is = first-within cs shape at (reference_count cs shape) b is

-- a place of a reference is one
place-first : (cs : List Class) (shape : Shape) (at k n : ℕ) (p : FieldAt) → k < n → reference_place cs shape k ≡ Some p → is_first_reference cs shape at n (at + p.offset) ≡ true
place-first cs shape at k zero p lt is = absurd (omega arith)
place-first cs shape at k (suc n) p lt is = elim (cases_eq k n) [
  | inl e ↦ or_left (stands_at (reference_place cs shape n) at (at + p.offset)) (is_first_reference cs shape at n (at + p.offset))
      (ap (λ (o : Option FieldAt). stands_at o at (at + p.offset)) (ap (reference_place cs shape) (sym e) ∙ is) ∙ eq-eqb (at + p.offset) (at + p.offset) refl)
  | inr ne ↦ or_right (stands_at (reference_place cs shape n) at (at + p.offset)) (is_first_reference cs shape at n (at + p.offset)) (place-first cs shape at k n p (omega (arith, lt, ne)) is)
]

pub place-reference : (cs : List Class) (shape : Shape) (at : ℕ) (p : FieldAt) → IsIn p (places_of cs shape) → p.kind ≡ Ref → is_reference cs shape at (at + p.offset) ≡ true
place-reference cs shape at p within kind =
    let it = references-found cs shape p within kind in
    place-first cs shape at it.0 (reference_count cs shape) p it.1 it.2

-- MANY OBJECTS

or-swap : (x y z : Bool) → (x || (y || z)) ≡ ((y || x) || z)
or-swap true true z = refl
or-swap true false z = refl
or-swap false true z = refl
or-swap false false z = refl

or-none : (x : Bool) → (x || false) ≡ x
or-none true = refl
or-none false = refl

-- one element more of a list that some element passes
any-more : {X : Type 0} (test : X → Bool) (xs : List X) (i : ℕ) (d : X) → i < length xs → list_any test (take (i + 1) xs) ≡ (list_any test (take i xs) || test (get_or xs i d))
any-more test xs i d below =
    let e : i + 1 ≡ suc i = omega arith in
    ap (λ n. list_any test (take n xs)) e ∙ ap (list_any test) (take-suc xs i d below) ∙ list_any-append test (take i xs) (get_or xs i d ∷ [])
    ∙ ap (λ b. list_any test (take i xs) || b) (or-none (test (get_or xs i d)))

-- some element of the first ones is one of them
any-of : {X : Type 0} (test : X → Bool) (xs : List X) (i : ℕ) (d : X) → i ≤ length xs → list_any test (take i xs) ≡ true → (j : ℕ) × (j < i) × (test (get_or xs j d) ≡ true)
any-of test xs zero d le is = absurd (true≢false (sym is))
any-of test [] (suc i) d le is = absurd (true≢false (sym is))
any-of test (x ∷ xs) (suc i) d le is = elim (or_cases (test x) (list_any test (take i xs)) is) [
  | inl here ↦ (0, omega arith, here)
  | inr there ↦ let it = any-of test xs i d (omega (arith, le)) there in (suc it.0, omega (arith, it.1), it.2)
]

-- what the objects cost one by one
reads-total : (cs : List Class) (raws : Raws) (ats : List Addr) → reads_to_turn cs raws ats ≡ sum_by (λ (a : Addr). raw_size cs raws a.0 + 16) ats
reads-total cs raws [] = refl
reads-total cs raws (a ∷ ats) =
    sum_by-cons (λ (n : ℕ). n) (raw_size cs raws a.0 + 16) (map (λ (size : ℕ). size + 16) (sizes_at cs raws ats)) ∙ ap (λ n. raw_size cs raws a.0 + 16 + n) (reads-total cs raws ats)
    ∙ sym (sum_by-cons (λ (it : Addr). raw_size cs raws it.0 + 16) a ats)

module _ (cs : List Class) (raws : Raws) (done : ℕ → Bool) (ats : List Addr) (ok : AreTurnable cs raws done ats) where
  abbrev none : Addr
  none = record { 0 = 0 }

  -- what is turned after the first i objects
  abbrev pub turned_to : ℕ → ℕ → Bool
  turned_to i b = is_reference_of cs raws (take i ats) b || done b

  -- the next object can be turned
  pub next-turnable : (v : View) (i : ℕ) → i < length ats → HoldsRaws cs v (turned_where raws (turned_to i)) → IsTurnable cs v raws (turned_to i) (at_of ats i)
  next-turnable v i below h = record {
    holds = h;
    has = ok.has i below;
    targets = λ p within kind. ok.targets i p below within kind;
    undone = λ p within kind.
        let b : ℕ = at_of ats i + p.offset in
        let mine = place-reference cs (raws.raw (at_of ats i)).shape (at_of ats i) p within kind in
        elim (cases_Bool (is_reference_of cs raws (take i ats) b)) [
          | inr off ↦ ap (λ x. x || done b) off ∙ ok.undone i b below mine
          | inl on ↦
              let it = any-of (λ (a : Addr). is_reference_at cs raws b a.0) ats i none (omega (arith, below)) on in
              let here = reference-within cs (raws.raw (at_of ats i)).shape (at_of ats i) b mine in
              let there = reference-within cs (raws.raw (at_of ats it.0)).shape (at_of ats it.0) b it.2 in
              elim (cases_order (at_of ats it.0) (at_of ats i)) [
                | inl same ↦ absurd (ok.once it.0 i it.1 below same)
                | inr o ↦ elim o [
                  | inl low ↦ let apart = h.apart (at_of ats it.0) (at_of ats i) (ok.has it.0 (omega (arith, it.1, below))) (ok.has i below) low in absurd (omega (arith, apart, here.0, there.1))
                  | inr high ↦ let apart = h.apart (at_of ats i) (at_of ats it.0) (ok.has i below) (ok.has it.0 (omega (arith, it.1, below))) high in absurd (omega (arith, apart, here.1, there.0))
                ]
              ]
        ];
  }

  pub turned-next : (w : View) (i : ℕ) → i < length ats → HoldsRaws cs w (turned_where raws (λ b. is_reference cs (raws.raw (at_of ats i)).shape (at_of ats i) b || turned_to i b)) → HoldsRaws cs w (turned_where raws (turned_to (i + 1)))
  turned-next w i below h =
      raws-same cs w _ _ h (same-turned cs raws (λ b. is_reference cs (raws.raw (at_of ats i)).shape (at_of ats i) b || turned_to i b) (turned_to (i + 1)) (λ a p has within kind.
      let b : ℕ = a + p.offset in
      or-swap (is_reference_at cs raws b (at_of ats i)) (is_reference_of cs raws (take i ats) b) (done b)
      ∙ ap (λ x. x || done b) (sym (any-more (λ (it : Addr). is_reference_at cs raws b it.0) ats i none below))))

  -- so many reads more turn it
  pub reads-next : (i before mid now : ℕ) → i < length ats → RoseBy (reads_to_turn cs raws (take i ats)) before mid → RoseBy (raw_size cs raws (at_of ats i) + 16) mid now → RoseBy (reads_to_turn cs raws (take (i + 1) ats)) before now
  reads-next i before mid now below rose more =
      let more_by = sum_by_more (λ (a : Addr). raw_size cs raws a.0 + 16) ats i none below in
      let e : reads_to_turn cs raws (take i ats) + (raw_size cs raws (at_of ats i) + 16) ≡ reads_to_turn cs raws (take (i + 1) ats) = omega (arith, more_by, reads-total cs raws (take i ats), reads-total cs raws (take (i + 1) ats)) in
      subst (λ n. RoseBy n before now) e (rose-both _ _ before mid now rose more)

  -- and its pages have their frames alone still
  pub next-alone : (m n : Memory) (t i : ℕ) → i < length ats → HoldsRaws cs (view_of n t) (turned_where raws (turned_to i)) → Keeps m n t (λ p. true) → HoldsRaws cs (view_of m t) (turned_where raws done) → ObjectsAlone cs m t raws ats
      → AreAlone n t (page_of (at_of ats i)) (pages_in (at_of ats i) (at_of ats i + raw_size cs raws (at_of ats i)))
  next-alone m n t i below h keeps was alone p low high =
      let space = (was.stands (at_of ats i) (ok.has i below)).space in
      let size = size-bounds cs (raws.raw (at_of ats i)).shape in
      keeps.alone p (space-page m t (at_of ats i) (raw_size cs raws (at_of ats i)) p space (omega (arith, size.0, size.1, size.2)) low high) (alone i below p low high)

-- MANY SLOTS

module _ (cs : List Class) (m : Memory) (t : ℕ) (raws : Raws) (done : ℕ → Bool) (slots : List Slot) (ok : AreSlotsIn cs m t raws slots) where
  abbrev no_slot : Slot
  no_slot = record { at = record { 0 = 0 }; target = record { 0 = 0 }; weak = false }

  abbrev pub slots_to : ℕ → ℕ → Bool
  slots_to i b = is_slot_of (take i slots) b || done b

  pub slots-next : (w : View) (i : ℕ) → i < length slots → HoldsRaws cs w (turned_where raws (λ b. nat_eq (slot_of slots i).at.0 b || slots_to i b)) → HoldsRaws cs w (turned_where raws (slots_to (i + 1)))
  slots-next w i below h =
      raws-same cs w _ _ h (same-turned cs raws (λ b. nat_eq (slot_of slots i).at.0 b || slots_to i b) (slots_to (i + 1)) (λ a p has within kind.
      let b : ℕ = a + p.offset in
      or-swap (nat_eq (slot_of slots i).at.0 b) (is_slot_of (take i slots) b) (done b)
      ∙ ap (λ x. x || done b) (sym (any-more (λ (s : Slot). nat_eq s.at.0 b) slots i no_slot below))))

  -- where a slot stands
  pub slot-there : (n : Memory) (test : ℕ → Bool) (i : ℕ) → i < length slots → HoldsRaws cs (view_of n t) (turned_where raws test) → ((slot_of slots i).at.0 % 4 ≡ 0) × IsTrue (is_mapped n t (page_of (slot_of slots i).at.0))
  slot-there n test i below h =
      let it = ok.each i below in
      let within = place-within cs (raws.raw it.object).shape Ref it.place.offset it.place (slot-place cs raws _ _ it) in
      let stands = h.stands it.object it.has in (
        omega (arith, it.at_is, within.1, stands.aligned),
        ap (λ a. is_mapped n t (page_of a)) it.at_is ∙ stands.space.mapped it.place.offset (omega (arith, within.2)),
      )

-- ROOTS

-- a root that isn't turned yet
pub next-root : (raws : Raws) (old roots : List Addr) (i : ℕ) → i < length old → roots ≡ map (gone_to raws) (take i old) ++ drop i old → at_of roots i ≡ at_of old i
next-root raws old roots i below is =
    let none : Addr = record { 0 = 0 } in
    let front : length (map (gone_to raws) (take i old)) ≡ i = length-map (take i old) (gone_to raws) ∙ length-take-le i old (omega (arith, below)) in
    ap (λ (xs : List Addr). at_of xs i) (is ∙ ap (λ xs. map (gone_to raws) (take i old) ++ xs) (drop_more old i none below))
    ∙ ap (λ (a : Addr). a.0) (get_or_at (map (gone_to raws) (take i old)) _ _ none i front)
