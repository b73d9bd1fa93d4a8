-- Outward slots: each stands in one object, and no two at one address.
use Rattle.std.proofs.Common.{◌≡◌, ◌∙◌, ℕ, ◌+◌, ◌%◌, ◌<◌, ◌≤◌, ◌^◌, Bool, true, false, List, Some, refl, sym, ap, subst, inl, inr, arith, pos}
use Rattle.std.specs.Prelude.{max, IsTrue, is_some}
use Rattle.std.proofs.lemmas.Bool.{cases_lt, cases_order, true≢false}
use Rattle.class_layout.specs.declared.kind.Kind.TheVariants.{Ref}
use Rattle.class_layout.specs.declared.kind.FieldAt.{FieldAt}
use Rattle.class_layout.specs.ClassList.{Class}
use Rattle.class_layout.specs.Placing.{IsIn}
use Rattle.page_tables.specs.declared.address.Window.TheVariants.{Large}
use Rattle.page_tables.specs.Address.{is_in, page_of}
use Rattle.cow_pages.specs.View.{u32_at}
use Rattle.heap_graph.specs.Places.{places_of}
use Rattle.heap_graph.proofs.Places.{one-place}
use Rattle.large_objects.specs.Rows.{row_at}
use Rattle.mark_bitmap.specs.Marks.{is_marked}
use Rattle.mark_bitmap.specs.Tests.{IsGreatestBelow, NoneBelow}
use Rattle.object_view.specs.declared.names.Slot.{Slot}
use Rattle.object_view.specs.Objects.{reference_place}
use Rattle.object_view.specs.Values.{is_value}
use Rattle.object_view.proofs.Laid.{place-within, reference-in}
use Rattle.object_view.proofs.Lookups.{address-fits}
use Rattle.object_view.proofs.References.{references-found}
use Rattle.object_view.proofs.Stores.{loaded}
use Rattle.raw_objects.specs.Raws.{raw_size, Raw, Raws}
use Rattle.raw_objects.specs.References.{address_in}
use Rattle.mod_union.specs.ModUnion.{is_outside, HoldsSpace, IsOutwardSlot, IsKnownTarget, ImmuneSpace}
use Rattle.mod_union.specs.Scans.{IsEdge}

abbrev slot_of : ℕ → ℕ → Bool → Slot
slot_of at target weak = record { at = record { 0 = at }; target = record { 0 = target }; weak = weak }

module _ (space : ImmuneSpace) (raws : Raws) (h : HoldsSpace space raws) where
  abbrev cs : List Class
  cs = space.classes

  abbrev IsOutward : Slot → Type 0
  IsOutward s = IsOutwardSlot space.classes raws space.rows s

  abbrev size : ℕ → ℕ
  size a = raw_size space.classes raws a

  -- where it stands in its object
  pub slot-within : (s : Slot) (o : IsOutward s) → (o.object ≤ s.at.0) × (s.at.0 + 4 ≤ o.object + size o.object)
  slot-within s o =
      let within = place-within cs (raws.raw o.object).shape Ref o.place.offset o.place (record { is_in = o.is_in; kind_is = o.kind_is; offset_is = refl }) in
      let at = o.at_is in
      (omega (arith, at), omega (arith, at, within.2))

  -- which object that is
  pub slot-object : (s : Slot) (o : IsOutward s) (at : ℕ) → raws.has at ≡ true → at ≤ s.at.0 → s.at.0 < at + size at → o.object ≡ at
  slot-object s o at has low high =
      let within = slot-within s o in
      elim (cases_order o.object at) [
        | inl same ↦ same
        | inr order ↦ elim order [
          | inl before ↦ absurd (let apart = h.holds.apart o.object at o.has has before in omega (arith, apart, within.1, low))
          | inr behind ↦ absurd (let apart = h.holds.apart at o.object has o.has behind in omega (arith, apart, within.0, high))
        ]
      ]

  -- which place of it
  pub slot-place : (s : Slot) (o : IsOutward s) (at : ℕ) (p : FieldAt) → o.object ≡ at → IsIn p (places_of cs (raws.raw at).shape) → s.at.0 ≡ at + p.offset → o.place ≡ p
  slot-place s o at p same there is =
      let mine : IsIn o.place (places_of cs (raws.raw at).shape) = subst (λ a. IsIn o.place (places_of cs (raws.raw a).shape)) same o.is_in in
      let e = o.at_is in
      one-place cs (raws.raw at).shape o.place p mine there (omega (arith, e, is, same))

  pub slot-target : (s : Slot) (o : IsOutward s) (at target : ℕ) (p : FieldAt) → o.object ≡ at → o.place ≡ p → pos target ≡ (raws.raw at).values p → s.target.0 ≡ target
  slot-target s o at target p same place is =
      ap address_in (o.target_is ∙ ap (λ a. (raws.raw a).values o.place) same ∙ ap (raws.raw at).values place ∙ sym is)

  -- at one address one slot stands
  pub slots-one : (s r : Slot) → IsOutward s → IsOutward r → s.at.0 ≡ r.at.0 → s ≡ r
  slots-one s r o q same =
      let within = slot-within r q in
      let object : o.object ≡ q.object = slot-object s o q.object q.has (omega (arith, within.0, same)) (omega (arith, within.1, same)) in
      let place : o.place ≡ q.place = slot-place s o q.object q.place object q.is_in (same ∙ q.at_is) in
      let target : s.target.0 ≡ r.target.0 = slot-target s o q.object r.target.0 q.place object place q.target_is in
      let weak : s.weak ≡ r.weak = o.weak_is ∙ ap (λ (p : FieldAt). p.weak) place ∙ sym q.weak_is in
      all s r same target weak
    where
      all : (s r : Slot) → s.at.0 ≡ r.at.0 → s.target.0 ≡ r.target.0 → s.weak ≡ r.weak → s ≡ r
      all s r a t w = ap (λ n. slot_of n s.target.0 s.weak) a ∙ ap (λ n. slot_of r.at.0 n s.weak) t ∙ ap (slot_of r.at.0 r.target.0) w

  -- which reference of an object it is
  pub slot-index : (s : Slot) (o : IsOutward s) (at : ℕ) → raws.has at ≡ true → at ≤ s.at.0 → s.at.0 < at + size at
      → (k : ℕ) × (p : FieldAt) × (reference_place cs (raws.raw at).shape k ≡ Some p) × (s.at.0 ≡ at + p.offset)
  slot-index s o at has low high =
      let same = slot-object s o at has low high in
      let mine : IsIn o.place (places_of cs (raws.raw at).shape) = subst (λ a. IsIn o.place (places_of cs (raws.raw a).shape)) same o.is_in in
      let it = references-found cs (raws.raw at).shape o.place mine o.kind_is in
      let e = o.at_is in
      (it.0, o.place, it.2, omega (arith, e, same))

  -- none stands behind an edge where no object begins
  pub none-in : (low high : ℕ) → IsEdge cs raws low → ((a : ℕ) → raws.has a ≡ true → low ≤ a → a < high → ⊥) → (s : Slot) → IsOutward s → low ≤ s.at.0 → s.at.0 < high → ⊥
  none-in low high edge none s o from to =
      let within = slot-within s o in
      elim (cases_lt o.object low) [
        | inl before ↦ let end = edge o.object o.has before in omega (arith, end, within.1, from)
        | inr behind ↦ none o.object o.has behind (omega (arith, within.0, to))
      ]

  -- an object's end is an edge
  pub edge-end : (at : ℕ) → raws.has at ≡ true → IsEdge cs raws (at + size at)
  edge-end at has a is before = elim (cases_order a at) [
    | inl same ↦ subst (λ b. b + size b ≤ at + size at) (sym same) (omega arith)
    | inr order ↦ elim order [
      | inl less ↦ let apart = h.holds.apart a at is has less in omega (arith, apart)
      | inr more ↦ absurd (let apart = h.holds.apart at a has is more in omega (arith, apart, before))
    ]
  ]

  -- an address before which the last object begins, or that object's end
  pub edge-last : (from last : ℕ) → IsGreatestBelow (is_marked space.starts) from last → IsEdge cs raws (max (last + size last) from)
  edge-last from last g a is before =
      let has : raws.has last ≡ true = h.begins last ∙ g.member in
      elim (cases_order a last) [
        | inl same ↦ subst (λ b. b + size b ≤ max (last + size last) from) (sym same) (omega arith)
        | inr order ↦ elim order [
          | inl less ↦ let apart = h.holds.apart a last is has less in omega (arith, apart)
          | inr more ↦ absurd (elim (cases_lt a from) [
            | inl low ↦ true≢false (sym is ∙ h.begins a ∙ g.greatest a more low)
            | inr high ↦ let apart = h.holds.apart last a has is more in omega (arith, apart, before, high)
          ])
        ]
      ]

  pub edge-none : (from : ℕ) → NoneBelow (is_marked space.starts) from → IsEdge cs raws from
  edge-none from none a is before = absurd (true≢false (sym is ∙ h.begins a ∙ none a before))

  -- what stands at a reference is its target
  module _ (at k : ℕ) (p : FieldAt) (has : raws.has at ≡ true) (is : reference_place space.classes (raws.raw at).shape k ≡ Some p) where
    abbrev target : ℕ
    target = u32_at space.view (at + p.offset)

    there : IsIn p (places_of cs (raws.raw at).shape) × (p.kind ≡ Ref)
    there = reference-in cs (raws.raw at).shape k p is

    known : IsKnownTarget space.rows ((raws.raw at).values p)
    known = h.targets at p has there.0 there.1

    pub target-read : pos target ≡ (raws.raw at).values p
    target-read =
        let r : Raw = raws.raw at in
        loaded cs space.view at r.shape r.header r.values Ref p.offset p (h.holds.stands at has) (record { is_in = there.0; kind_is = there.1; offset_is = refl })
        (ap (is_value Ref) known.is ∙ address-fits known.address known.below)

    pub target-known : is_in Large (page_of target) ≡ true → IsTrue (is_some (row_at space.rows target))
    target-known =
        let e : known.address ≡ target = ap address_in (sym known.is ∙ sym target-read) in
        subst (λ n. is_in Large (page_of n) ≡ true → IsTrue (is_some (row_at space.rows n))) e known.large

    pub slot-here : (x : ℕ) (weak : Bool) → x ≡ at + p.offset → weak ≡ p.weak → is_outside space.rows (u32_at space.view x) ≡ true
        → IsOutward (record { at = record { 0 = x }; target = record { 0 = u32_at space.view x }; weak = weak })
    slot-here x weak e f out = record {
      object = at;
      place = p;
      has = has;
      is_in = there.0;
      kind_is = there.1;
      at_is = e;
      target_is = ap (λ n. pos (u32_at space.view n)) e ∙ target-read;
      weak_is = f;
      outside = out;
    }

    pub slot-not : is_outside space.rows target ≡ false → (s : Slot) → IsOutward s → s.at.0 ≡ at + p.offset → ⊥
    slot-not inside s o e =
        let within = place-within cs (raws.raw at).shape Ref p.offset p (record { is_in = there.0; kind_is = there.1; offset_is = refl }) in
        let object = slot-object s o at has (omega (arith, e)) (omega (arith, e, within.2)) in
        let place = slot-place s o at p object there.0 e in
        let same = slot-target s o at target p object place target-read in
        true≢false (sym o.outside ∙ ap (is_outside space.rows) same ∙ inside)

    pub slot-bounds : (p.offset % 4 ≡ 0) × (at % 8 ≡ 0) × (p.offset + 4 ≤ size at) × (at + size at ≤ 2 ^ 32)
    slot-bounds =
        let within = place-within cs (raws.raw at).shape Ref p.offset p (record { is_in = there.0; kind_is = there.1; offset_is = refl }) in
        let stands = h.holds.stands at has in
        (within.1, stands.aligned, within.2, stands.space.below)
