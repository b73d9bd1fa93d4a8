use Rattle.std.proofs.Common.{◌<◌, ap, sym, subst, ◌∙◌, arith}
use Rattle.class_layout.specs.ClassList.{superclass_layout, IsEarlier}
use Rattle.class_layout.specs.Layout.{field_named}
use Rattle.class_layout.proofs.RowLaws.{field_named-found, field_named-above, parent_before}
use Rattle.class_layout.proofs.classes.Classes.field.Goals as goal

pub returns-in-Some : goal.returns-in-Some
returns-in-Some c =
    sym (c.loop-j.invariant.1 ∙ field_named-found c.args.self.now c.loop-j.at _ _ c.entry.ensures.row c.args.name.now c.in-Some.j c.field_at.result (sym c.in-Some.ensures) c.field_at.ensures)

-- no class of the chain has the name
pub returns-in_err-at-in-None : goal.returns-in_err-at-in-None
returns-in_err-at-in-None c =
    let cs = c.args.self.now in
    let n = c.args.name.now in
    let above = field_named-above cs c.loop-j.at _ _ c.entry.ensures.row n c.entry.ensures.formed (sym c.in-None.ensures) in
    c.from_residual.ensures ∙ sym (c.loop-j.invariant.1 ∙ above ∙ ap (λ o. field_named (superclass_layout cs o) n) c.in_err-at-in-None.was)

-- the walk goes on at the superclass
pub loop-j-preserved : goal.loop-j-preserved
loop-j-preserved c =
    let cs = c.args.self.now in
    let n = c.args.name.now in
    let k = c.loop-j.at in
    let above = field_named-above cs k _ _ c.entry.ensures.row n c.entry.ensures.formed (sym c.in-None.ensures) in
    let was = c.in_ok-at-in-None.was in
    let less : c.in_ok-at-in-None.at < k = subst (IsEarlier k) was (parent_before cs k _ _ c.entry.ensures.formed c.entry.ensures.row) in
    (omega arith, c.loop-j.invariant.1 ∙ above ∙ ap (λ o. field_named (superclass_layout cs o) n) was)
