-- How far a scan of an object's references has come.
use Rattle.std.proofs.Common.{◌≡◌, ◌⊎◌, ◌∙◌, ℕ, ◌+◌, ◌*◌, ◌-◌, ◌/◌, ◌%◌, ◌<◌, ◌≤◌, ◌^◌, Bool, true, cond, List, [], ◌∷◌, ◌++◌, Option, Some, None, sym, ap, subst, inl, inr, arith}
use Rattle.std.specs.Prelude.{option_map, IsTrue, is_some}
use Rattle.std.proofs.lemmas.Bool.{cases_Bool, cases_lt, cases_order}
use Rattle.std.proofs.lemmas.Option.{same_Some}
use Rattle.model_numbers.specs.Numbers.{card_bytes}
use Rattle.class_layout.specs.declared.kind.FieldAt.{FieldAt}
use Rattle.class_layout.specs.ClassList.{Class}
use Rattle.page_tables.specs.declared.address.Window.TheVariants.{Large}
use Rattle.page_tables.specs.Address.{is_in, page_of}
use Rattle.cow_pages.specs.Memory.{Memory}
use Rattle.cow_pages.specs.View.{u32_at, view_of}
use Rattle.heap_graph.specs.declared.names.Shape.{Shape}
use Rattle.large_objects.specs.declared.rows.LargeRow.{LargeRow}
use Rattle.large_objects.specs.Rows.{row_at}
use Rattle.object_view.specs.declared.names.Slot.{Slot}
use Rattle.object_view.specs.Objects.{reference_place}
use Rattle.object_view.proofs.Laid.{references-rise, size-bounds}
use Rattle.raw_objects.specs.Raws.{raw_size, Raws}
use Rattle.mod_union.specs.Lists.{ListsBelow}
use Rattle.mod_union.specs.ModUnion.{is_outside, slot_address, HoldsSpace, IsOutwardSlot, ImmuneSpace}
use Rattle.mod_union.specs.declared.scan.Scan.{Scan}
use Rattle.mod_union.specs.Scans.{begin_on, end_on, space_in, with_outward, IsFirstFrom, IsObjectOf, Reads}
use Rattle.mod_union.proofs.Counted.{space-read}
use Rattle.mod_union.proofs.Lists.{lists-more, lists-wider}
use Rattle.mod_union.proofs.Refs.{found-place, none-behind}
use Rattle.mod_union.proofs.Slots.{slot-bounds, slot-here, slot-index, slot-not, slots-one, target-known}

-- the references before index k stand before some bound, and the others at it or behind it; the outward slots up to it
-- were added, if all up to the object's beginning on the card were there
pub record IsReached (cs : List Class) (raws : Raws) (rows : List LargeRow) (at card first k : ℕ) (old found : List Slot) : Type 0 where
  pub bound : ℕ
  pub low : begin_on card at ≤ bound
  pub high : bound ≤ end_on card (at + raw_size cs raws at)
  pub before : (j : ℕ) (p : FieldAt) → j < k → reference_place cs (raws.raw at).shape j ≡ Some p → at + p.offset < bound
  pub behind : (j : ℕ) (p : FieldAt) → k ≤ j → reference_place cs (raws.raw at).shape j ≡ Some p → bound ≤ at + p.offset
  pub spaced : 4 * k + begin_on card at ≤ 4 * first + bound
  pub listed : ListsBelow slot_address (IsOutwardSlot cs raws rows) (begin_on card at) old → ListsBelow slot_address (IsOutwardSlot cs raws rows) bound found

module _ (space : ImmuneSpace) (raws : Raws) (h : HoldsSpace space raws) (at card first : ℕ) (old : List Slot) (has : raws.has at ≡ true) (early : at < card_bytes * (card + 1)) where
  abbrev IsOutward : Slot → Type 0
  IsOutward s = IsOutwardSlot space.classes raws space.rows s

  abbrev IsReachedBy : ℕ → List Slot → Type 0
  IsReachedBy k found = IsReached space.classes raws space.rows at card first k old found

  pub reach-first : IsFirstFrom space.classes (raws.raw at).shape (card * card_bytes - at) first → IsReachedBy first old
  reach-first f =
      let some = size-bounds space.classes (raws.raw at).shape in
      record {
        bound = begin_on card at;
        low = omega arith;
        high = omega (arith, some.0, some.1, some.2);
        before = λ j p less is. let it = f.before j p less is in omega (arith, it);
        behind = λ j p more is. let it = f.behind j p more is in omega (arith, it);
        spaced = omega arith;
        listed = λ old. old;
      }

  -- an outward slot behind the bound is one of the references that are left
  index-left : (k : ℕ) (found : List Slot) (r : IsReachedBy k found) (s : Slot) → IsOutward s → r.bound ≤ s.at.0 → s.at.0 < end_on card (at + raw_size space.classes raws at)
      → (j : ℕ) × (p : FieldAt) × (k ≤ j) × (reference_place space.classes (raws.raw at).shape j ≡ Some p) × (s.at.0 ≡ at + p.offset)
  index-left k found r s o low high =
      let begin = r.low in
      let it = slot-index space raws h s o at has (omega (arith, begin, low)) (omega (arith, begin, low, high)) in
      elim (cases_lt it.0 k) [
        | inl less ↦ absurd (let before = r.before it.0 it.1 less it.2 in omega (arith, before, it.3, low))
        | inr more ↦ (it.0, it.1, more, it.2, it.3)
      ]

  module _ (k : ℕ) (found : List Slot) (p : FieldAt) (x : ℕ) (weak : Bool) (r : IsReachedBy k found) (is : reference_place space.classes (raws.raw at).shape k ≡ Some p)
      (x_is : x ≡ at + p.offset) (weak_is : weak ≡ p.weak) where
    behind-this : (j : ℕ) (q : FieldAt) → k < j → reference_place space.classes (raws.raw at).shape j ≡ Some q → x + 4 ≤ at + q.offset
    behind-this j q more there = let rise = references-rise space.classes (raws.raw at).shape k j p q more is there in omega (arith, rise, x_is)

    at-or-behind : (j : ℕ) (q : FieldAt) → k ≤ j → reference_place space.classes (raws.raw at).shape j ≡ Some q → (at + q.offset ≡ x) ⊎ (x + 4 ≤ at + q.offset)
    at-or-behind j q more there = elim (cases_order k j) [
      | inl same ↦
          let e : p ≡ q = same_Some p q (sym is ∙ ap (reference_place space.classes (raws.raw at).shape) same ∙ there) in
          inl (sym (x_is ∙ ap (λ (f : FieldAt). at + f.offset) e))
      | inr order ↦ elim order [ inl less ↦ inr (behind-this j q less there) | inr wrong ↦ absurd (omega (arith, wrong, more)) ]
    ]

    -- a reference on the card is passed, and added where it is outward
    pub reach-more : x < card_bytes * (card + 1) → IsReachedBy (k + 1) (with_outward space.rows found (record { at = record { 0 = x }; target = record { 0 = u32_at space.view x }; weak = weak }))
    reach-more on =
        let bounds = slot-bounds space raws h at k p has is in
        let from : r.bound ≤ x = let le = r.behind k p (omega arith) is in omega (arith, le, x_is) in
        let end : x + 4 ≤ end_on card (at + raw_size space.classes raws at) = omega (arith, bounds.0, bounds.1, bounds.2, x_is, on) in
        let low = r.low in
        let spaced = r.spaced in
        let slot : Slot = record { at = record { 0 = x }; target = record { 0 = u32_at space.view x }; weak = weak } in
        record {
          bound = x + 4;
          low = omega (arith, low, from);
          high = end;
          before = λ j q less there. elim (cases_lt j k) [
            | inl earlier ↦ let it = r.before j q earlier there in omega (arith, it, from)
            | inr later ↦ elim (at-or-behind j q later there) [
              | inl here ↦ omega (arith, here)
              | inr behind ↦
                  let same : j ≡ k = omega (arith, later, less) in
                  let e : p ≡ q = same_Some p q (sym is ∙ ap (reference_place space.classes (raws.raw at).shape) (sym same) ∙ there) in
                  let f = ap (λ (g : FieldAt). g.offset) e in
                  omega (arith, f, x_is)
            ]
          ];
          behind = λ j q more there. behind-this j q (omega (arith, more)) there;
          spaced = omega (arith, spaced, from);
          listed = λ before.
              let here = lists-wider slot_address IsOutward r.bound x found (r.listed before) from
              (λ s o behind less.
              let it = index-left k found r s o behind (omega (arith, less, end)) in
              elim (at-or-behind it.0 it.1 it.2 it.3) [ inl same ↦ omega (arith, same, it.4, less) | inr later ↦ omega (arith, later, it.4, less) ]) in
              let gap : (s : Slot) → IsOutward s → x + 1 ≤ s.at.0 → s.at.0 < x + 4 → ⊥ = λ s o behind less.
              let it = index-left k found r s o (omega (arith, behind, from)) (omega (arith, less, end)) in
              elim (at-or-behind it.0 it.1 it.2 it.3) [ inl same ↦ omega (arith, same, it.4, behind) | inr later ↦ omega (arith, later, it.4, less) ] in
              elim (cases_Bool (is_outside space.rows (u32_at space.view x))) [
                | inl out ↦
                    let o = slot-here space raws h at k p has is x weak x_is weak_is out in
                    subst (ListsBelow slot_address IsOutward (x + 4)) (sym (ap (λ b. cond b (found ++ slot ∷ []) found) out))
                    (lists-wider slot_address IsOutward (x + 1) (x + 4) (found ++ slot ∷ [])
                    (lists-more slot_address IsOutward found slot here o (λ s other same. sym (slots-one space raws h s slot other o same))) (omega arith) gap)
                | inr inside ↦
                    let none : (s : Slot) → IsOutward s → s.at.0 ≡ x → ⊥ = λ s o same.
                    slot-not space raws h at k p has is (ap (λ n. is_outside space.rows (u32_at space.view n)) (sym x_is) ∙ inside) s o (same ∙ x_is) in
                    subst (ListsBelow slot_address IsOutward (x + 4)) (sym (ap (λ b. cond b (found ++ slot ∷ []) found) inside))
                    (lists-wider slot_address IsOutward x (x + 4) found here (omega arith) (λ s o behind less. elim (cases_order s.at.0 x) [
                      | inl same ↦ none s o same
                      | inr order ↦ elim order [ inl wrong ↦ omega (arith, wrong, behind) | inr more ↦ gap s o (omega (arith, more)) less ]
                    ]))
              ];
        }

    -- a reference behind the card ends the scan
    pub reach-past : card_bytes * (card + 1) ≤ x → ListsBelow slot_address IsOutward (begin_on card at) old
        → ListsBelow slot_address IsOutward (end_on card (at + raw_size space.classes raws at)) found
    reach-past past before =
        lists-wider slot_address IsOutward r.bound (end_on card (at + raw_size space.classes raws at)) found (r.listed before) r.high
        (λ s o behind less.
        let it = index-left k found r s o behind less in
        let begin = r.low in
        elim (at-or-behind it.0 it.1 it.2 it.3) [ inl same ↦ omega (arith, same, it.4, less, past) | inr later ↦ omega (arith, later, it.4, less, past) ])

  -- and so does the last
  pub reach-end : (k : ℕ) (found : List Slot) → IsReachedBy k found → reference_place space.classes (raws.raw at).shape k ≡ None → ListsBelow slot_address IsOutward (begin_on card at) old
      → ListsBelow slot_address IsOutward (end_on card (at + raw_size space.classes raws at)) found
  reach-end k found r none before =
      lists-wider slot_address IsOutward r.bound (end_on card (at + raw_size space.classes raws at)) found (r.listed before) r.high
      (λ s o behind less. let it = index-left k found r s o behind less in none-behind space.classes (raws.raw at).shape it.0 k it.1 it.2 none it.3)

-- so many references were passed
pub reached-few : (cs : List Class) (raws : Raws) (rows : List LargeRow) (at card first k : ℕ) (old found : List Slot) → IsReached cs raws rows at card first k old found → first ≤ k
    → k - first ≤ (end_on card (at + raw_size cs raws at) - begin_on card at) / 4
reached-few cs raws rows at card first k old found r le = let spaced = r.spaced in let high = r.high in let low = r.low in omega (arith, spaced, high, low, le)

-- a reference whose offset was found, where memory was read since
pub record IsHere (scan : Scan) (now : Memory) (raws : Raws) (at k offset : ℕ) (weak : Bool) : Type 0 where
  pub held : HoldsSpace (space_in scan now) raws
  pub place : FieldAt
  pub is : reference_place scan.classes.now (raws.raw at).shape k ≡ Some place
  pub at_is : at + offset ≡ at + place.offset
  pub weak_is : weak ≡ place.weak
  pub aligned : (at + offset) % 4 ≡ 0
  pub below : at + offset + 4 ≤ 2 ^ 32
  pub mapped : (view_of now scan.t.0).mapped (at + offset) ≡ true
  pub known : is_in Large (page_of (u32_at (view_of now scan.t.0) (at + offset))) ≡ true → IsTrue (is_some (row_at scan.larges.now (u32_at (view_of now scan.t.0) (at + offset))))

pub held-still : (scan : Scan) (old now : Memory) (n : ℕ) (raws : Raws) → Reads n old now → HoldsSpace (space_in scan old) raws → HoldsSpace (space_in scan now) raws
held-still scan old now n raws reads held = subst (λ (s : ImmuneSpace). HoldsSpace s raws) (sym (space-read scan n old now reads)) held

pub reference-here : (scan : Scan) (old now : Memory) (n : ℕ) (raws : Raws) (at : ℕ) (shape : Shape) (k offset : ℕ) (weak : Bool) → Reads n old now → IsObjectOf (space_in scan old) raws at shape
    → ◌≡◌ {A = Option (ℕ × Bool)} (Some (offset, weak)) (option_map (λ (place : FieldAt). (place.offset, place.weak)) (reference_place scan.classes.now shape k))
    → IsHere scan now raws at k offset weak
reference-here scan old now n raws at shape k offset weak reads o found =
    let it = found-place scan.classes.now shape k offset weak found in
    let held = held-still scan old now n raws reads o.held in
    let is : reference_place scan.classes.now (raws.raw at).shape k ≡ Some it.0 = ap (λ (s : Shape). reference_place scan.classes.now s k) o.shape_is ∙ it.1 in
    let at_is : at + offset ≡ at + it.0.offset = ap (λ m. at + m) (sym it.2) in
    let bounds = slot-bounds (space_in scan now) raws held at k it.0 o.has is in
    let stands = held.holds.stands at o.has in
    record {
      held = held;
      place = it.0;
      is = is;
      at_is = at_is;
      weak_is = sym it.3;
      aligned = omega (arith, at_is, bounds.0, bounds.1);
      below = omega (arith, at_is, bounds.2, bounds.3);
      mapped = ap (view_of now scan.t.0).mapped at_is ∙ stands.space.mapped it.0.offset (omega (arith, bounds.2));
      known = subst (λ a. is_in Large (page_of (u32_at (view_of now scan.t.0) a)) ≡ true → IsTrue (is_some (row_at scan.larges.now (u32_at (view_of now scan.t.0) a)))) (sym at_is)
          (target-known (space_in scan now) raws held at k it.0 o.has is);
    }
