use Rattle.std.proofs.Common.{ap, ◌∙◌}
use Rattle.class_layout.specs.ClassList.{number_of}
use Rattle.class_layout.proofs.RowLaws.{position-keys}
use Rattle.class_layout.proofs.classes.Classes.find.Goals as goal

pub returns-in_err-i : goal.returns-in_err-i
returns-in_err-i c =
    let n = c.args.name.now in
    c.from_residual.ensures ∙ c.in_err-i.ensures.index ∙ position-keys c.self.inside.rows.entries n ∙ ap (λ cs. number_of cs n) c.self.view_is

pub returns : goal.returns
returns c =
    let n = c.args.name.now in
    c.in_ok-i.ensures.index ∙ position-keys c.self.inside.rows.entries n ∙ ap (λ cs. number_of cs n) c.self.view_is
