use Rattle.std.proofs.Common.{◌≡◌, ◌∷◌, [], ◌++◌, Ok, Some, arith, length, length-append, nat_eq, sym, ap, subst, ◌∙◌}
use Rattle.std.specs.Cmp.Lexicographic.{pointwise}
use Rattle.indexmap.proofs.CallerLemmas.{insert_entry-new}
use Rattle.class_layout.specs.ClassList.{Class, number_of, define_class}
use Rattle.class_layout.specs.Defining.{IsDefinable}
use Rattle.class_layout.specs.Rows.{classes_of, IsRow, AreRows}
use Rattle.class_layout.proofs.ClassLists.{define_class-definable}
use Rattle.class_layout.proofs.Growth.{AreRows-push, classes_of-push, lookup-fresh}
use Rattle.class_layout.proofs.classes.Classes.define.Goals as goal

-- the class goes last among the entries
added : (c : goal.Joined-branch-4) → c.insert.new.self.entries ≡ c.self.inside.rows.entries ++ (c.args.name, c.in_ok-row.row) ∷ []
added c =
    let rows = c.self.inside.rows in
    let n = c.args.name in
    let fresh = ap (λ cs. number_of cs n) c.self.view_is ∙ c.in_ok-parent.ensures.1.fresh in
    c.in_ok-insert.ensures.entries ∙ insert_entry-new (pointwise nat_eq) rows n c.in_ok-row.row (lookup-fresh rows.entries n fresh)

-- and among the classes
grown : (c : goal.Joined-branch-4) → classes_of c.insert.new.self.entries ≡ c.args.self.now ++ record { name = c.args.name; parent = Some c.in_ok-parent.parent; fields = c.args.fields.now } ∷ []
grown c =
    let last : Class = record { name = c.args.name; parent = Some c.in_ok-parent.parent; fields = c.args.fields.now } in
    ap classes_of (added c) ∙ classes_of-push c.self.inside.rows.entries c.args.name c.in_ok-parent.parent c.args.fields.now _ c.in_ok-row.row c.in_ok-row.ensures
    ∙ ap (λ cs. cs ++ last ∷ []) c.self.view_is

allowed : (c : goal.Joined-branch-4) → define_class c.args.self.now c.args.name c.args.parent.now c.args.fields.now
    ≡ Ok (c.args.self.now ++ record { name = c.args.name; parent = Some c.in_ok-parent.parent; fields = c.args.fields.now } ∷ [])
allowed c = define_class-definable c.args.self.now c.args.name c.args.parent.now c.in_ok-parent.parent c.args.fields.now c.in_ok-parent.ensures.0 c.in_ok-parent.ensures.1

pub invariant_of-self-2 : goal.invariant_of-self-2
invariant_of-self-2 c =
    let rows = c.self.inside.rows in
    let n = c.args.name in
    let p = c.in_ok-parent.parent in
    let back = sym c.self.view_is in
    let new = subst (λ cs. IsDefinable cs n p c.args.fields.now) back c.in_ok-parent.ensures.1 in
    let above = subst (λ cs. IsRow cs p c.entry.result.0.now c.entry.result.1.now) back c.entry.ensures.row in
    subst AreRows (sym (added c)) (AreRows-push rows.entries n p c.args.fields.now _ _ c.in_ok-row.row c.self.invariant new c.requires above c.in_ok-row.ensures)

pub returns-clause-made : goal.returns-clause-made
returns-clause-made c =
    let last : Class = record { name = c.args.name; parent = Some c.in_ok-parent.parent; fields = c.args.fields.now } in
    (omega (arith, c.count-class.ensures.value, ap length (grown c), length-append c.args.self.now (last ∷ [])), allowed c ∙ ap Ok (sym (grown c)))

pub returns-clause-defined : goal.returns-clause-defined
returns-clause-defined c = rw (allowed c) (c.count-class.ensures.value, grown c)
