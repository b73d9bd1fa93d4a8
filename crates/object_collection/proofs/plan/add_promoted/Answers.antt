use Rattle.std.proofs.Common.{◌≡◌, ◌∙◌, ◌||◌, ℕ, false, List, get_or, inl, inr, nat_eq, refl, sym, ap, subst, arith}
use Rattle.std.specs.List.{Contains}
use Rattle.std.proofs.lemmas.Bool.{cases_eq, eq-eqb, eqb-true, or_cases, or_left, or_right, true≢false}
use Rattle.std.proofs.lemmas.List.{get_or_default}
use Rattle.bit_set.specs.Bits.{is_member, room, Bits}
use Rattle.large_objects.specs.declared.rows.LargeRow.{LargeRow}
use Rattle.large_objects.specs.Rows.{AreRows}
use Rattle.object_collection.proofs.Marked.{same-row}
use Rattle.object_collection.proofs.plan.add_promoted.Goals.{then-row, else-row}
use Rattle.object_collection.proofs.plan.add_promoted.Goals as goal

abbrev none : LargeRow
none = record { number = 0; slot = 0; bytes = 0; promoted = false; marked = false }

pub loop-row-init : goal.loop-row-init
loop-row-init c = record {
  stay = λ q is. is;
  only = λ row there is. inr is;
  done = λ k d below is. absurd (omega (arith, below));
  same_room = refl;
}

pub insert-requires : goal.insert-requires
insert-requires c =
    let are : AreRows c.rows-row-items.result.now = subst (λ (rows : List LargeRow). AreRows rows) (sym c.rows-row-items.ensures.rows) c.rows-row-items.ensures.are_rows in
    let below = are.within c.loop-row.row-index none c.loop-row-test.true in
    omega (arith, below, c.loop-row.invariant.same_room, c.requires)

pub loop-row-preserved : goal.loop-row-preserved
loop-row-preserved c =
    let items : List LargeRow = c.rows-row-items.result.now in
    let i : ℕ = c.loop-row.row-index in
    let row : LargeRow = get_or items i none in
    let are : AreRows items = subst (λ (rows : List LargeRow). AreRows rows) (sym c.rows-row-items.ensures.rows) c.rows-row-items.ensures.are_rows in
    let here : Contains items row = (i, c.loop-row-test.true, get_or_default items i row none c.loop-row-test.true) in
    elim c.if-row.branch [
      | then-row w ↦
          let member : (q : ℕ) → is_member c.if-row.slots q ≡ (nat_eq q row.slot || is_member c.loop-row.slots q) = λ q. ap (λ (s : Bits). is_member s q) w.slots-is ∙ w.insert.ensures.member q in
          record {
            stay = λ q is. member q ∙ or_right (nat_eq q row.slot) (is_member c.loop-row.slots q) (c.loop-row.invariant.stay q is);
            only = λ r there is. elim (or_cases (nat_eq r.slot row.slot) (is_member c.loop-row.slots r.slot) (sym (member r.slot) ∙ is)) [
              | inl same ↦ inl (ap (λ (x : LargeRow). x.promoted) (same-row items r row are there here (eqb-true r.slot row.slot same)) ∙ w.if-row.true)
              | inr before ↦ c.loop-row.invariant.only r there before
            ];
            done = λ k d below is. elim (cases_eq k i) [
              | inl same ↦
                  let it : get_or items k d ≡ row = ap (λ (n : ℕ). get_or items n d) same ∙ get_or_default items i d none c.loop-row-test.true in
                  member (get_or items k d).slot ∙ or_left (nat_eq (get_or items k d).slot row.slot) _ (eq-eqb _ row.slot (ap (λ (x : LargeRow). x.slot) it))
              | inr other ↦ member (get_or items k d).slot ∙ or_right (nat_eq (get_or items k d).slot row.slot) _ (c.loop-row.invariant.done k d (omega (arith, below, other)) is)
            ];
            same_room = ap room w.slots-is ∙ w.insert.ensures.same_room ∙ c.loop-row.invariant.same_room;
          }
      | else-row w ↦
          let same : (q : ℕ) → is_member c.if-row.slots q ≡ is_member c.loop-row.slots q = λ q. ap (λ (s : Bits). is_member s q) w.slots-is in
          record {
            stay = λ q is. same q ∙ c.loop-row.invariant.stay q is;
            only = λ r there is. c.loop-row.invariant.only r there (sym (same r.slot) ∙ is);
            done = λ k d below is. elim (cases_eq k i) [
              | inl e ↦ absurd (true≢false (sym is ∙ ap (λ (n : ℕ). (get_or items n d).promoted) e ∙ ap (λ (x : LargeRow). x.promoted) (get_or_default items i d none c.loop-row-test.true) ∙ w.if-row.false))
              | inr other ↦ same (get_or items k d).slot ∙ c.loop-row.invariant.done k d (omega (arith, below, other)) is
            ];
            same_room = ap room w.slots-is ∙ c.loop-row.invariant.same_room;
          }
    ]

pub returns-clause-slots : goal.returns-clause-slots
returns-clause-slots c row there =
    let items : List LargeRow = c.rows-row-items.result.now in
    let in_items : Contains items row = subst (λ (rows : List LargeRow). Contains rows row) (sym c.rows-row-items.ensures.rows) there in (
      λ is. c.loop-row.invariant.only row in_items is,
      λ either. elim either [
        | inl promoted ↦
            let is : get_or items in_items.0 row ≡ row = in_items.2 in
            ap (λ (x : LargeRow). is_member c.loop-row.slots x.slot) (sym is) ∙ c.loop-row.invariant.done in_items.0 row (omega (arith, in_items.1)) (ap (λ (x : LargeRow). x.promoted) is ∙ promoted)
        | inr before ↦ c.loop-row.invariant.stay row.slot before
      ],
    )

pub returns-clause-room : goal.returns-clause-room
returns-clause-room c = c.loop-row.invariant.same_room
