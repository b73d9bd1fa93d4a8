-- What an object's references hold, one after the other.
use Rattle.std.proofs.Common.{◌≡◌, ◌≢◌, ◌∙◌, ◌⊎◌, ℕ, ◌+◌, ◌≤◌, true, false, List, [], ◌∷◌, ◌++◌, Option, Some, None, refl, sym, ap, subst, inl, inr, arith, pos}
use Rattle.std.specs.Prelude.{option_map}
use Rattle.std.specs.List.{Contains}
use Rattle.std.proofs.lemmas.Bool.{and_from, and_parts, cases_lt, cases_eq, false≢true}
use Rattle.std.proofs.lemmas.List.Elements.{Contains-push}
use Rattle.std.proofs.lemmas.Option.{none-some, same_Some}
use Rattle.class_layout.specs.declared.kind.Kind.TheVariants.{Ref}
use Rattle.class_layout.specs.declared.kind.FieldAt.{FieldAt}
use Rattle.class_layout.specs.ClassList.{Class}
use Rattle.cow_pages.specs.Memory.{Memory}
use Rattle.cow_pages.specs.View.{View, view_of}
use Rattle.heap_graph.specs.declared.names.Shape.{Shape}
use Rattle.object_view.specs.declared.names.Slot.{Slot}
use Rattle.object_view.specs.Changes.{reads_after_all, shape_reads, slot_reads}
use Rattle.object_view.specs.Objects.{HasShape, IsObject, IsPlace, Stands, reference_count, reference_place, slot_at}
use Rattle.object_view.specs.Values.{is_value}
use Rattle.object_view.proofs.Laid.{reference-in}
use Rattle.object_view.proofs.Lookups.{address-fits}
use Rattle.object_view.proofs.References.{references-each, references-found}
use Rattle.object_view.proofs.Stores.{loaded}
use Rattle.raw_objects.specs.Raws.{Raw, Raws}
use Rattle.raw_objects.proofs.Uncounted.{slot-free}
use Rattle.raw_objects.proofs.Turned.{object-held}
use Rattle.large_objects.specs.declared.rows.LargeRow.{LargeRow}
use Rattle.large_objects.specs.Rows.{AreRows, slot_base}
use Rattle.live_objects.specs.Marks.{CanConsider, CanFollow, HeldBefore, HeldIn, State, Takes}
use Rattle.live_objects.specs.Reach.{Holds, IsFound, in_large, is_mortal, is_node}
use Rattle.live_objects.proofs.MarkLemmas.{AtBase, base-is, in-large, mortal-cases}
use Rattle.live_objects.proofs.OrderLemmas.{regions-span}
use Rattle.live_objects.proofs.TakesLemmas.{one-in, takes-both, takes-none, takes-same}

-- READS

pub node-low : (rows : List LargeRow) (raws : Raws) (a : ℕ) → AreRows rows → is_node rows raws a ≡ true → 0x40000000 ≤ a
node-low rows raws a are node = elim (mortal-cases rows a are (and_parts (raws.has a) (is_mortal rows a) node).1) [
  | inl young ↦ (regions-span a young).low
  | inr b ↦ omega (arith, b.is)
]

-- memory is as it was
pub same-memory : (m n : Memory) (t at : ℕ) (shape : Shape) (found : Option Slot) (place : Option FieldAt) → 0x40000000 ≤ at → found ≡ option_map (slot_at (view_of m t) at) place
    → n ≡ record m { reads = reads_after_all m.reads (shape_reads at shape ++ slot_reads found) } → n ≡ m
same-memory m n t at shape found place low e is = is ∙ ap (λ (k : ℕ). let it : Memory = record m { reads = k } in it) (slot-free (view_of m t) m.reads at shape found place low e)

-- WHAT IS HELD

same-pos : (m n : ℕ) → pos m ≡ pos n → m ≡ n
same-pos m n e = cc

base-large : (b : ℕ) → AtBase b → in_large b ≡ true
base-large b at = subst (λ k. in_large k ≡ true) at.is (in-large (slot_base at.slot) (base-is [] at.slot at.within).inside)

pub found-held : (rows : List LargeRow) (raws : Raws) (b : ℕ) → AreRows rows → IsFound raws b → is_mortal rows b ≡ true → is_node rows raws b ≡ true
found-held rows raws b are found mortal =
    and_from (raws.has b) (is_mortal rows b) (elim (mortal-cases rows b are mortal) [ inl young ↦ found.young young | inr base ↦ found.large (base-large b base) ]) mortal

-- an address that is found can be looked at
pub found-considered : (cs : List Class) (v : View) (raws : Raws) (rows : List LargeRow) (numbers : List ℕ) (n : ℕ) → CanFollow cs v raws rows numbers → IsFound raws n → CanConsider rows numbers n
found-considered cs v raws rows numbers n can found = record {
  young = λ is. (can.found n (found.young is)).young is;
  large = λ is. (can.found n (found.large is)).large is;
}

-- what is read at an index of an object
pub record Following (cs : List Class) (rows : List LargeRow) (raws : Raws) (at k : ℕ) (slot : Slot) : Type 0 where
  pub place : FieldAt
  pub is : reference_place cs (raws.raw at).shape k ≡ Some place
  pub weak_is : slot.weak ≡ place.weak
  pub target_is : (raws.raw at).values place ≡ pos slot.target.0
  pub found : IsFound raws slot.target.0

pub following : (cs : List Class) (v : View) (raws : Raws) (rows : List LargeRow) (numbers : List ℕ) (at k : ℕ) (slot : Slot) → CanFollow cs v raws rows numbers → is_node rows raws at ≡ true
    → Some slot ≡ option_map (slot_at v at) (reference_place cs (raws.raw at).shape k) → Following cs rows raws at k slot
following cs v raws rows numbers at k slot can node found = by (reference_place cs (raws.raw at).shape k) refl found
  where
    by : (o : Option FieldAt) → reference_place cs (raws.raw at).shape k ≡ o → Some slot ≡ option_map (slot_at v at) o → Following cs rows raws at k slot
    by None is e = absurd (none-some slot (sym e))
    by (Some place) is e =
        let r : Raw = raws.raw at in
        let same : slot ≡ slot_at v at place = same_Some slot (slot_at v at place) e in
        let there = reference-in cs r.shape k place is in
        let in_place : IsPlace cs r.shape Ref place.offset place = record { is_in = there.0; kind_is = there.1; offset_is = refl } in
        let stands : Stands cs v at r.shape r.header r.values = can.holds.stands at (and_parts (raws.has at) (is_mortal rows at) node).0 in
        let target = can.targets at place node there.0 there.1 in
        let fits : is_value Ref (r.values place) ≡ true = ap (is_value Ref) target.is ∙ address-fits target.address target.below in
        let value : pos slot.target.0 ≡ r.values place = ap (λ (s : Slot). pos s.target.0) same ∙ loaded cs v at r.shape r.header r.values Ref place.offset place stands in_place fits in
        let address : target.address ≡ slot.target.0 = cc (value, target.is) in
        record {
          place = place;
          is = is;
          weak_is = ap (λ (s : Slot). s.weak) same;
          target_is = sym value;
          found = subst (IsFound raws) address target.found;
        }

module _ (cs : List Class) (rows : List LargeRow) (raws : Raws) (at : ℕ) where
  -- before the first reference nothing is held
  pub before-none : (s : State) → Takes (HeldBefore cs rows raws at 0) s s
  before-none s = takes-none (HeldBefore cs rows raws at 0) s (λ b h. omega (arith, h.before))

  wider : (k b : ℕ) → HeldBefore cs rows raws at k b → HeldBefore cs rows raws at (k + 1) b
  wider k b h = record { index = h.index; before = omega (arith, h.before); place = h.place; is = h.is; strong = h.strong; target_is = h.target_is; mortal = h.mortal }

  narrower : (k b : ℕ) → (h : HeldBefore cs rows raws at (k + 1) b) → h.index ≢ k → HeldBefore cs rows raws at k b
  narrower k b h ne = record { index = h.index; before = omega (arith, h.before, ne); place = h.place; is = h.is; strong = h.strong; target_is = h.target_is; mortal = h.mortal }

  -- the place of a reference that is the k-th
  last-place : (k b : ℕ) (slot : Slot) → (it : Following cs rows raws at k slot) → (h : HeldBefore cs rows raws at (k + 1) b) → h.index ≡ k → h.place ≡ it.place
  last-place k b slot it h same = same_Some h.place it.place (sym h.is ∙ ap (reference_place cs (raws.raw at).shape) same ∙ it.is)

  -- a strong reference more
  pub before-strong : (k : ℕ) (slot : Slot) (old mid new : State) → Following cs rows raws at k slot → slot.weak ≡ false → Takes (HeldBefore cs rows raws at k) old mid
      → Takes (HeldIn rows (slot.target.0 ∷ [])) mid new → Takes (HeldBefore cs rows raws at (k + 1)) old new
  before-strong k slot old mid new it strong first next =
      takes-both (HeldBefore cs rows raws at k) (HeldIn rows (slot.target.0 ∷ [])) (HeldBefore cs rows raws at (k + 1)) old mid new (λ b. (there b, back b)) first next
    where
      there : (b : ℕ) → HeldBefore cs rows raws at (k + 1) b → HeldBefore cs rows raws at k b ⊎ HeldIn rows (slot.target.0 ∷ []) b
      there b h = elim (cases_eq h.index k) [
        | inl same ↦
            let target : slot.target.0 ≡ b = same-pos slot.target.0 b (sym it.target_is ∙ ap (raws.raw at).values (sym (last-place k b slot it h same)) ∙ h.target_is) in
            inr (subst (Contains (slot.target.0 ∷ [])) target (Contains-push [] slot.target.0), h.mortal)
        | inr ne ↦ inl (narrower k b h ne)
      ]

      back : (b : ℕ) → HeldBefore cs rows raws at k b ⊎ HeldIn rows (slot.target.0 ∷ []) b → HeldBefore cs rows raws at (k + 1) b
      back b (inl h) = wider k b h
      back b (inr h) =
          let target : slot.target.0 ≡ b = one-in slot.target.0 b h.0 in
          record { index = k; before = omega arith; place = it.place; is = it.is; strong = sym it.weak_is ∙ strong; target_is = it.target_is ∙ ap (λ n. pos n) target; mortal = h.1 }

  -- a weak one more
  pub before-weak : (k : ℕ) (slot : Slot) (old new : State) → Following cs rows raws at k slot → slot.weak ≡ true → Takes (HeldBefore cs rows raws at k) old new → Takes (HeldBefore cs rows raws at (k + 1)) old new
  before-weak k slot old new it weak first = takes-same (HeldBefore cs rows raws at k) (HeldBefore cs rows raws at (k + 1)) old new (λ b. (wider k b, back b)) first
    where
      back : (b : ℕ) → HeldBefore cs rows raws at (k + 1) b → HeldBefore cs rows raws at k b
      back b h = elim (cases_eq h.index k) [
        | inl same ↦ absurd (false≢true (sym h.strong ∙ ap (λ (p : FieldAt). p.weak) (last-place k b slot it h same) ∙ sym it.weak_is ∙ weak))
        | inr ne ↦ narrower k b h ne
      ]

  -- behind the last reference all is held
  pub before-all : (v : View) (numbers : List ℕ) (k : ℕ) (old new : State) → AreRows rows → CanFollow cs v raws rows numbers → is_node rows raws at ≡ true → reference_place cs (raws.raw at).shape k ≡ None
      → Takes (HeldBefore cs rows raws at k) old new → Takes (Holds cs rows raws at) old new
  before-all v numbers k old new are can node none first = takes-same (HeldBefore cs rows raws at k) (Holds cs rows raws at) old new (λ b. (there b, back b)) first
    where
      shape : Shape
      shape = (raws.raw at).shape

      past : reference_count cs (raws.raw at).shape ≤ k
      past = elim (cases_lt k (reference_count cs (raws.raw at).shape)) [
        | inl lt ↦ absurd (let it = references-each cs (raws.raw at).shape k lt in none-some it.0 (sym none ∙ it.1))
        | inr ge ↦ ge
      ]

      there : (b : ℕ) → HeldBefore cs rows raws at k b → Holds cs rows raws at b
      there b h =
          let in_shape = reference-in cs (raws.raw at).shape h.index h.place h.is in
          let target = can.targets at h.place node in_shape.0 in_shape.1 in
          let address : target.address ≡ b = same-pos target.address b (sym target.is ∙ h.target_is) in
          record { place = h.place; is_in = in_shape.0; kind_is = in_shape.1; strong = h.strong; target_is = h.target_is; node = found-held rows raws b are (subst (IsFound raws) address target.found) h.mortal }

      back : (b : ℕ) → Holds cs rows raws at b → HeldBefore cs rows raws at k b
      back b h =
          let it = references-found cs (raws.raw at).shape h.place h.is_in h.kind_is in
          record {
            index = it.0;
            before = omega (arith, it.1, past);
            place = h.place;
            is = it.2;
            strong = h.strong;
            target_is = h.target_is;
            mortal = (and_parts (raws.has b) (is_mortal rows b) h.node).1;
          }

-- an object of the first memory can be read in one that is the same
pub object-now : (cs : List Class) (rows : List LargeRow) (raws : Raws) (numbers : List ℕ) (t at : ℕ) (first old : Memory) → old ≡ first → CanFollow cs (view_of first t) raws rows numbers → is_node rows raws at ≡ true
    → IsObject cs (view_of old t) at (raws.raw at).shape
object-now cs rows raws numbers t at first old same can node =
    subst (λ (m : Memory). IsObject cs (view_of m t) at (raws.raw at).shape) (sym same) (object-held cs (view_of first t) raws at can.holds (and_parts (raws.has at) (is_mortal rows at) node).0)

-- what a read of a reference tells, and that memory is as it was
pub record Scanned (cs : List Class) (raws : Raws) (t at k : ℕ) (first new : Memory) (found : Option Slot) : Type 0 where
  pub same : new ≡ first
  pub slot : found ≡ option_map (slot_at (view_of first t) at) (reference_place cs (raws.raw at).shape k)

pub scanned : (cs : List Class) (rows : List LargeRow) (raws : Raws) (numbers : List ℕ) (t at k : ℕ) (first old new : Memory) (found : Option Slot) → AreRows rows → old ≡ first
    → CanFollow cs (view_of first t) raws rows numbers → is_node rows raws at ≡ true
    → ((shape : Shape) → HasShape (view_of old t) at shape → found ≡ option_map (slot_at (view_of old t) at) (reference_place cs shape k))
    → ((shape : Shape) → HasShape (view_of old t) at shape → new ≡ record old { reads = reads_after_all old.reads (shape_reads at shape ++ slot_reads found) }) → Scanned cs raws t at k first new found
scanned cs rows raws numbers t at k first old new found are same can node slot reads =
    let shape : Shape = (raws.raw at).shape in
    let there = (object-now cs rows raws numbers t at first old same can node).has_shape in
    let is = slot shape there in
    record {
      same = same-memory old new t at shape found (reference_place cs shape k) (node-low rows raws at are node) is (reads shape there) ∙ same;
      slot = is ∙ ap (λ (m : Memory). option_map (slot_at (view_of m t) at) (reference_place cs shape k)) same;
    }
