-- References that are turned one by one.
use Rattle.std.proofs.Common.{◌≡◌, ◌∙◌, ℕ, zero, suc, ◌+◌, ◌-◌, ◌*◌, ◌<◌, ◌≤◌, ◌^◌, ◌%◌, Bool, true, false, cond, List, Option, Some, None, refl, sym, ap, subst, inl, inr, arith, add-one, ℤ, pos}
use Rattle.std.specs.Prelude.{option_map, nat_eq, ◌||◌}
use Rattle.std.proofs.lemmas.Bool.{cases_eq, cases_lt, cases_order, cases_Bool, eq-eqb, ne_eqb}
use Rattle.std.proofs.lemmas.Option.{none-some, same_Some}
use Rattle.class_layout.specs.declared.kind.Kind.{Kind}
use Rattle.class_layout.specs.declared.kind.Kind.TheVariants.{Ref}
use Rattle.class_layout.specs.declared.kind.FieldAt.{FieldAt}
use Rattle.class_layout.specs.ClassList.{Class}
use Rattle.class_layout.specs.Kinds.{is_ref}
use Rattle.class_layout.specs.Placing.{IsIn}
use Rattle.cow_pages.specs.Memory.{Memory}
use Rattle.cow_pages.specs.View.{View, view_of}
use Rattle.heap_graph.specs.declared.names.Shape.{Shape}
use Rattle.heap_graph.specs.Sizes.{size_in}
use Rattle.object_view.specs.declared.names.Slot.{Slot}
use Rattle.object_view.specs.Changes.{PutsNumber}
use Rattle.heap_graph.specs.Places.{places_of}
use Rattle.object_view.specs.Objects.{reference_count, reference_place, slot_at, IsObject, IsPlace, Stands}
use Rattle.object_view.specs.Values.{is_value, number_of}
use Rattle.heap_graph.proofs.Places.{bytes-low, one-place}
use Rattle.object_view.proofs.Laid.{place-within, ref-kind, reference-in, references-rise}
use Rattle.object_view.proofs.Lookups.{address-fits, SameView-reads}
use Rattle.object_view.proofs.Standing.{HasHeader-stands, HasShape-stands}
use Rattle.object_view.proofs.Stores.{loaded}
use Rattle.object_view.proofs.References.{references-each, references-none}
use Rattle.raw_objects.specs.Raws.{Raw, Raws, HoldsRaws, SameRaw, SameRaws, stored, stored_raw}
use Rattle.raw_objects.specs.References.{address_in, goes, in_regions, is_first_reference, is_reference, stands_at, turned, turned_where, IsReadable, IsSlotIn, IsTurnable}
use Rattle.raw_objects.proofs.Raws.{at-here, at-other, raws-same, raws-seen, raws-stored}

-- two tests that agree on the references turn the same ones
pub same-turned : (cs : List Class) (raws : Raws) (one other : ℕ → Bool)
    → ((a : ℕ) (p : FieldAt) → raws.has a ≡ true → IsIn p (places_of cs (raws.raw a).shape) → p.kind ≡ Ref → one (a + p.offset) ≡ other (a + p.offset))
    → SameRaws cs (turned_where raws one) (turned_where raws other)
same-turned cs raws one other agree = record {
  has = λ a. refl;
  raw = λ a is. record {
    shape = refl;
    header = refl;
    values = λ p within.
        let old : ℤ = (raws.raw a).values p in
        elim (cases_Bool (is_ref p.kind)) [
          | inl e ↦ ap (λ b. cond b (turned raws p old) old) (sym (agree a p is within (ref-kind p.kind e)))
          | inr e ↦
              let plain : turned raws p old ≡ old = ap (λ b. cond b (pos (goes raws (address_in old))) old) e in
              either (other (a + p.offset)) (turned raws p old) old plain ∙ sym (either (one (a + p.offset)) (turned raws p old) old plain)
        ];
  };
}
  where
    either : (b : Bool) (x y : ℤ) → x ≡ y → cond b x y ≡ y
    either true x y e = e
    either false x y e = refl

-- what a slot's place is
pub slot-place : (cs : List Class) (raws : Raws) (at target : ℕ) → (it : IsSlotIn cs raws at target) → IsPlace cs (raws.raw it.object).shape Ref it.place.offset it.place
slot-place cs raws at target it = record { is_in = it.is_in; kind_is = it.kind_is; offset_is = refl }

module _ (cs : List Class) (v : View) (raws : Raws) (done : ℕ → Bool) (at target : ℕ) (h : HoldsRaws cs v (turned_where raws done)) (it : IsSlotIn cs raws at target) where
  abbrev now : Raws
  now = turned_where raws done

  abbrev z : ℤ
  z = pos (goes raws target)

  abbrev next : ℕ → Bool
  next b = nat_eq at b || done b

  -- the slot's own object
  slot-here : SameRaw cs (stored_raw (now.raw it.object) it.place.offset z) ((turned_where raws next).raw it.object)
  slot-here = record {
    shape = refl;
    header = refl;
    values = λ p there.
        let old : ℤ = (raws.raw it.object).values p in
        elim (cases_eq p.offset it.place.offset) [
          | inl same ↦
              let one : p ≡ it.place = one-place cs (raws.raw it.object).shape p it.place there it.is_in same in
              let value : old ≡ pos target = ap (raws.raw it.object).values one ∙ sym it.target_is in
              ap (λ b. cond (b || done (it.object + p.offset)) (turned raws p old) old) (eq-eqb at (it.object + p.offset) (omega (arith, it.at_is, same)))
              ∙ ap (turned raws p) value ∙ ap (λ (q : Kind). cond (is_ref q) z (pos target)) (ap (λ (q : FieldAt). q.kind) one ∙ it.kind_is)
              ∙ sym (ap (λ b. cond b z ((now.raw it.object).values p)) (eq-eqb p.offset it.place.offset same))
          | inr ne ↦
              ap (λ b. cond (b || done (it.object + p.offset)) (turned raws p old) old) (ne_eqb at (it.object + p.offset) (λ e. ne (omega (arith, it.at_is, e))))
              ∙ sym (ap (λ b. cond b z ((now.raw it.object).values p)) (ne_eqb p.offset it.place.offset ne))
        ];
  }

  -- the others
  slot-beside : (a : ℕ) → raws.has a ≡ true → (a ≡ it.object → ⊥) → SameRaw cs (now.raw a) ((turned_where raws next).raw a)
  slot-beside a is ne =
      let within = place-within cs (raws.raw it.object).shape Ref it.place.offset it.place (slot-place cs raws at target it) in
      record {
        shape = refl;
        header = refl;
        values = λ p there.
            let old : ℤ = (raws.raw a).values p in
            let mine = place-within cs (raws.raw a).shape p.kind p.offset p (record { is_in = there; kind_is = refl; offset_is = refl }) in
            let off : at ≡ a + p.offset → ⊥ = λ e. elim (cases_order a it.object) [
              | inl same ↦ ne same
              | inr o ↦ elim o [
                | inl low ↦ let beside = h.apart a it.object is it.has low in omega (arith, beside, e, it.at_is, mine.2, bytes-low p.kind)
                | inr high ↦ let beside = h.apart it.object a it.has is high in omega (arith, beside, e, it.at_is, within.2)
              ]
            ] in
            ap (λ b. cond (b || done (a + p.offset)) (turned raws p old) old) (ne_eqb at (a + p.offset) off);
      }

  -- one reference more is turned
  pub slot-more : SameRaws cs (stored now it.object it.place.offset z) (turned_where raws next)
  slot-more =
      let x : Raw = stored_raw (now.raw it.object) it.place.offset z in
      record {
        has = λ a. refl;
        raw = λ a is. elim (cases_eq a it.object) [
          | inl e ↦ at-here x (now.raw a) a it.object (λ r. SameRaw cs r ((turned_where raws next).raw a)) e (subst (λ b. SameRaw cs x ((turned_where raws next).raw b)) (sym e) slot-here)
          | inr ne ↦ at-other x (now.raw a) a it.object (λ r. SameRaw cs r ((turned_where raws next).raw a)) ne (slot-beside a is ne)
        ];
      }

  -- where the new address was put there
  pub one-turned : (w : View) → PutsNumber v w Ref at (number_of Ref (pos (goes raws target))) → HoldsRaws cs w (turned_where raws next)
  one-turned w puts =
      raws-same cs w (stored now it.object it.place.offset z) (turned_where raws next)
      (raws-stored cs v w now h it.object Ref it.place.offset it.place z it.has (slot-place cs raws at target it)
      (subst (λ b. PutsNumber v w Ref b (number_of Ref z)) it.at_is puts)) slot-more

  -- and where the target stayed
  pub same-target : goes raws target ≡ target → HoldsRaws cs v (turned_where raws next)
  same-target stays =
      let old : ℤ = (raws.raw it.object).values it.place in
      let turns : turned raws it.place old ≡ old =
      ap (turned raws it.place) (sym it.target_is) ∙ ap (λ (q : Kind). cond (is_ref q) z (pos target)) it.kind_is ∙ ap (λ n. pos n) stays ∙ it.target_is in
      raws-same cs v now (turned_where raws next) h (record {
        has = λ a. refl;
        raw = λ a is. elim (cases_eq a it.object) [
          | inl e ↦ subst (λ b. SameRaw cs (now.raw b) ((turned_where raws next).raw b)) (sym e) (record {
            shape = refl;
            header = refl;
            values = λ p there. elim (cases_eq p.offset it.place.offset) [
              | inl same ↦
                  let one : p ≡ it.place = one-place cs (raws.raw it.object).shape p it.place there it.is_in same in
                  let turns' : turned raws p ((raws.raw it.object).values p) ≡ (raws.raw it.object).values p = subst (λ (q : FieldAt). turned raws q ((raws.raw it.object).values q) ≡ (raws.raw it.object).values q) (sym one) turns in
                  either (next (it.object + p.offset)) _ _ turns' ∙ sym (either (done (it.object + p.offset)) _ _ turns')
              | inr ne ↦
                  ap (λ b. cond (b || done (it.object + p.offset)) (turned raws p ((raws.raw it.object).values p)) ((raws.raw it.object).values p))
                  (ne_eqb at (it.object + p.offset) (λ e. ne (omega (arith, it.at_is, e))))
            ];
          })
          | inr ne ↦ slot-beside a is ne
        ];
      })
    where
      either : (b : Bool) (x y : ℤ) → x ≡ y → cond b x y ≡ y
      either true x y e = e
      either false x y e = refl

  -- what the slot's target is can be read
  pub slot-readable : IsReadable v target
  slot-readable inside =
      let there = it.stands inside in
      let r : Raw = now.raw target in
      (r.header, HasHeader-stands cs v target r.shape r.header r.values (h.stands target there))

-- before the first reference none is turned
pub none-turned : (cs : List Class) (v : View) (raws : Raws) → HoldsRaws cs v raws → HoldsRaws cs v (turned_where raws (λ b. false))
none-turned cs v raws h = raws-same cs v raws (turned_where raws (λ b. false)) h (record { has = λ a. refl; raw = λ a is. record { shape = refl; header = refl; values = λ p there. refl } })

-- an object that is held can be read
pub object-held : (cs : List Class) (v : View) (raws : Raws) (at : ℕ) → HoldsRaws cs v raws → raws.has at ≡ true → IsObject cs v at (raws.raw at).shape
object-held cs v raws at h is =
    let r : Raw = raws.raw at in
    let stands = h.stands at is in
    record { has_shape = HasShape-stands cs v at r.shape r.header r.values stands; known = h.known at is; space = stands.space }

-- what is held is held after a read
pub raws-read : (cs : List Class) (m n : Memory) (t k : ℕ) (raws : Raws) → n ≡ record m { reads = k } → HoldsRaws cs (view_of m t) raws → HoldsRaws cs (view_of n t) raws
raws-read cs m n t k raws e h = subst (λ x. HoldsRaws cs (view_of x t) raws) (sym e) (raws-seen cs (view_of m t) (view_of (record m { reads = k }) t) raws h (SameView-reads m t k))

-- a later reference is none of the first
first-not : (cs : List Class) (shape : Shape) (at j k : ℕ) (p : FieldAt) → j ≤ k → reference_place cs shape k ≡ Some p → is_first_reference cs shape at j (at + p.offset) ≡ false
first-not cs shape at zero k p le is = refl
first-not cs shape at (suc j) k p le is = by (reference_place cs shape j) refl (first-not cs shape at j k p (omega arith) is)
  where
    by : (o : Option FieldAt) → reference_place cs shape j ≡ o → is_first_reference cs shape at j (at + p.offset) ≡ false → (stands_at o at (at + p.offset) || is_first_reference cs shape at j (at + p.offset)) ≡ false
    by None e rest = rest
    by (Some q) e rest =
        let rise = references-rise cs shape j k q p (omega arith) e is in
        ap (λ b. b || is_first_reference cs shape at j (at + p.offset)) (ne_eqb (at + q.offset) (at + p.offset) (λ same. omega (arith, rise, same))) ∙ rest

-- behind the last reference there is none more
first-all : (cs : List Class) (shape : Shape) (at k b : ℕ) → reference_count cs shape ≤ k → is_first_reference cs shape at k b ≡ is_reference cs shape at b
first-all cs shape at zero b le = let e : 0 ≡ reference_count cs shape = omega arith in ap (λ n. is_first_reference cs shape at n b) e
first-all cs shape at (suc k) b le = elim (cases_eq (suc k) (reference_count cs shape)) [
  | inl e ↦ ap (λ n. is_first_reference cs shape at n b) e
  | inr ne ↦ ap (λ o. stands_at o at b || is_first_reference cs shape at k b) (references-none cs shape k (omega arith)) ∙ first-all cs shape at k b (omega arith)
]

-- what is turned after the first k references of an object
abbrev pub turned_first : List Class → Raws → (ℕ → Bool) → ℕ → ℕ → Raws
turned_first cs raws done at k = turned_where raws (λ b. is_first_reference cs (raws.raw at).shape at k b || done b)

-- what is found at an index of an object whose first references are turned
pub record Turning (cs : List Class) (v : View) (raws : Raws) (at k : ℕ) (slot : Slot) : Type 0 where
  pub place : FieldAt
  pub is : reference_place cs (raws.raw at).shape k ≡ Some place
  pub at_is : slot.at.0 ≡ at + place.offset
  pub aligned : slot.at.0 % 4 ≡ 0
  pub within : place.offset + 4 ≤ size_in cs (raws.raw at).shape
  pub mapped : v.mapped slot.at.0 ≡ true
  pub slot_in : IsSlotIn cs raws slot.at.0 slot.target.0

pub turning : (cs : List Class) (u v : View) (raws : Raws) (done : ℕ → Bool) (at k : ℕ) (slot : Slot) → IsTurnable cs u raws done at → HoldsRaws cs v (turned_first cs raws done at k)
    → Some slot ≡ option_map (slot_at v at) (reference_place cs (raws.raw at).shape k) → Turning cs v raws at k slot
turning cs u v raws done at k slot ok h found = by (reference_place cs (raws.raw at).shape k) refl found
  where
    by : (o : Option FieldAt) → reference_place cs (raws.raw at).shape k ≡ o → Some slot ≡ option_map (slot_at v at) o → Turning cs v raws at k slot
    by None is e = absurd (none-some slot (sym e))
    by (Some place) is e =
        let r : Raw = raws.raw at in
        let x : Raw = (turned_first cs raws done at k).raw at in
        let same : slot ≡ slot_at v at place = same_Some slot (slot_at v at place) e in
        let there = reference-in cs r.shape k place is in
        let in_place : IsPlace cs r.shape Ref place.offset place = record { is_in = there.0; kind_is = there.1; offset_is = refl } in
        let within = place-within cs r.shape Ref place.offset place in_place in
        let stands : Stands cs v at r.shape r.header x.values = h.stands at ok.has in
        let undone : x.values place ≡ r.values place =
        ap (λ b. cond b (turned raws place (r.values place)) (r.values place))
        (ap (λ b. b || done (at + place.offset)) (first-not cs r.shape at k k place (omega arith) is) ∙ ok.undone place there.0 there.1) in
        let target = ok.targets place there.0 there.1 in
        let fits : is_value Ref (x.values place) ≡ true = ap (is_value Ref) (undone ∙ target.is) ∙ address-fits target.address target.below in
        let value : pos slot.target.0 ≡ x.values place = ap (λ (s : Slot). pos s.target.0) same ∙ loaded cs v at r.shape r.header x.values Ref place.offset place stands in_place fits in
        let at_is : slot.at.0 ≡ at + place.offset = ap (λ (s : Slot). s.at.0) same in
        let address : target.address ≡ slot.target.0 = cc (value, undone, target.is) in
        record {
          place = place;
          is = is;
          at_is = at_is;
          aligned = omega (arith, at_is, stands.aligned, within.1);
          within = within.2;
          mapped = ap v.mapped at_is ∙ stands.space.mapped place.offset (omega (arith, within.2));
          slot_in = record {
            object = at;
            place = place;
            has = ok.has;
            is_in = there.0;
            kind_is = there.1;
            at_is = at_is;
            target_is = value ∙ undone;
            stands = subst (λ a. in_regions a ≡ true → raws.has a ≡ true) address target.stands;
          };
        }

regroup : (x y z : Bool) → (x || (y || z)) ≡ ((x || y) || z)
regroup true y z = refl
regroup false y z = refl

-- a step of the loop
pub first-more : (cs : List Class) (v w : View) (raws : Raws) (done : ℕ → Bool) (at k : ℕ) (slot : Slot) → (it : Turning cs v raws at k slot)
    → HoldsRaws cs w (turned_where raws (λ b. nat_eq slot.at.0 b || (is_first_reference cs (raws.raw at).shape at k b || done b))) → HoldsRaws cs w (turned_first cs raws done at (k + 1))
first-more cs v w raws done at k slot it h =
    let shape : Shape = (raws.raw at).shape in
    subst (λ n. HoldsRaws cs w (turned_first cs raws done at n)) (sym (add-one k))
    (raws-same cs w _ (turned_first cs raws done at (suc k)) h (same-turned cs raws
    (λ b. nat_eq slot.at.0 b || (is_first_reference cs shape at k b || done b)) (λ b. is_first_reference cs shape at (suc k) b || done b) (λ a p has within kind.
    let b : ℕ = a + p.offset in
    ap (λ n. nat_eq n b || (is_first_reference cs shape at k b || done b)) it.at_is ∙ regroup (nat_eq (at + it.place.offset) b) (is_first_reference cs shape at k b) (done b)
    ∙ ap (λ o. (stands_at o at b || is_first_reference cs shape at k b) || done b) (sym it.is))))

-- its end
pub first-last : (cs : List Class) (v : View) (raws : Raws) (done : ℕ → Bool) (at k : ℕ) → reference_place cs (raws.raw at).shape k ≡ None → HoldsRaws cs v (turned_first cs raws done at k)
    → HoldsRaws cs v (turned_where raws (λ b. is_reference cs (raws.raw at).shape at b || done b))
first-last cs v raws done at k none h =
    let shape : Shape = (raws.raw at).shape in
    let past : reference_count cs shape ≤ k = elim (cases_lt k (reference_count cs shape)) [ inl lt ↦ absurd (let it = references-each cs shape k lt in none-some it.0 (sym none ∙ it.1)) | inr ge ↦ ge ] in
    raws-same cs v _ _ h (same-turned cs raws (λ b. is_first_reference cs shape at k b || done b) (λ b. is_reference cs shape at b || done b)
    (λ a p has within kind. ap (λ b. b || done (a + p.offset)) (first-all cs shape at k (a + p.offset) past)))

-- references stand 4 bytes apart
pub rises-by : (cs : List Class) (shape : Shape) (k : ℕ) (p : FieldAt) → reference_place cs shape k ≡ Some p → 4 * k ≤ p.offset
rises-by cs shape zero p is = omega arith
rises-by cs shape (suc k) p is =
    let below : suc k < reference_count cs shape = elim (cases_lt (suc k) (reference_count cs shape)) [ inl lt ↦ lt | inr ge ↦ absurd (none-some p (sym (references-none cs shape (suc k) ge) ∙ is)) ] in
    let before = references-each cs shape k (omega arith) in
    let rise = references-rise cs shape k (suc k) before.0 p (omega arith) before.1 is in
    omega (arith, rise, rises-by cs shape k before.0 before.1)

-- an object has fewer references than any index of 64 bits
pub none-last : (cs : List Class) (v : View) (raws : Raws) (at : ℕ) → HoldsRaws cs v raws → raws.has at ≡ true → reference_place cs (raws.raw at).shape (2 ^ 64 - 1) ≡ None
none-last cs v raws at h is = by (reference_place cs (raws.raw at).shape (2 ^ 64 - 1)) refl
  where
    by : (o : Option FieldAt) → reference_place cs (raws.raw at).shape (2 ^ 64 - 1) ≡ o → o ≡ None
    by None e = refl
    by (Some p) e =
        let there = reference-in cs (raws.raw at).shape (2 ^ 64 - 1) p e in
        let within = place-within cs (raws.raw at).shape Ref p.offset p (record { is_in = there.0; kind_is = there.1; offset_is = refl }) in
        let space = (h.stands at is).space in
        absurd (omega (arith, rises-by cs (raws.raw at).shape (2 ^ 64 - 1) p e, within.2, space.below))

-- nothing is found at an index where no reference is
pub no-slot : (f : FieldAt → Slot) (found : Option Slot) (place : Option FieldAt) → ((s : Slot) → found ≡ Some s → ⊥) → found ≡ option_map f place → place ≡ None
no-slot f found None none e = refl
no-slot f found (Some p) none e = absurd (none (f p) e)
