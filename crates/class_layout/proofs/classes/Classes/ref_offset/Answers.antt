use Rattle.std.proofs.Common.{◌≡◌, ℕ, ◌+◌, ◌<◌, ◌≤◌, Bool, slice_get, ap, sym, subst, ◌∙◌, arith}
use Rattle.std.specs.Option.{option_map}
use Rattle.class_layout.specs.declared.kind.FieldAt.{FieldAt}
use Rattle.class_layout.specs.ClassList.{superclass_layout, IsEarlier}
use Rattle.class_layout.specs.Layout.{references}
use Rattle.class_layout.proofs.RowLaws.{parent_before, reference-own, reference-past, reference-above}
use Rattle.class_layout.proofs.classes.Classes.ref_offset.Goals as goal

pub returns-in-Some : goal.returns-in-Some
returns-in-Some c =
    let e : c.entry.result.1.now.refs_before + c.in-Some.own ≡ c.args.k = omega (arith, c.in-Some.ensures.0, c.in-Some.ensures.1) in
    let pair : FieldAt → ℕ × Bool = λ at. (at.offset, at.weak) in
    sym (ap (option_map pair) (c.loop-own.invariant.1 ∙ reference-own c.args.self.now c.loop-own.at _ _ c.entry.ensures.row c.args.k c.in-Some.own c.if-own-row.true e))

pub returns-in-Some-2 : goal.returns-in-Some-2
returns-in-Some-2 c =
    let past : c.entry.result.1.now.refs_before + c.entry.result.1.now.refs ≤ c.args.k = omega (arith, c.in-Some.ensures.0, c.in-Some.ensures.1, c.if-own-row.false) in
    let pair : FieldAt → ℕ × Bool = λ at. (at.offset, at.weak) in
    sym (ap (option_map pair) (c.loop-own.invariant.1 ∙ reference-past c.args.self.now c.loop-own.at _ _ c.entry.ensures.row c.args.k past))

-- the walk goes on at the superclass
pub loop-own-preserved : goal.loop-own-preserved
loop-own-preserved c =
    let cs = c.args.self.now in
    let at = c.loop-own.at in
    let below : c.args.k < c.entry.result.1.now.refs_before = omega (arith, c.in-None.ensures) in
    let was = c.in_ok-at-in-None.was in
    let above = reference-above cs at _ _ c.entry.ensures.row c.args.k c.entry.ensures.formed below in
    let less : c.in_ok-at-in-None.at < at = subst (IsEarlier at) was (parent_before cs at _ _ c.entry.ensures.formed c.entry.ensures.row) in
    (omega arith, c.loop-own.invariant.1 ∙ above ∙ ap (λ o. slice_get (references (superclass_layout cs o)) c.args.k) was)
