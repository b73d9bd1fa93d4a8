use Rattle.std.proofs.Common.{ap, is_some, ◌∙◌}
use Rattle.class_layout.specs.ClassList.{layout_of}
use Rattle.class_layout.proofs.RowLaws.{is_some-field_named}
use Rattle.class_layout.proofs.classes.Classes.has_field.Goals as goal

pub returns : goal.returns
returns c = c.is_some.ensures ∙ ap is_some c.field.ensures ∙ is_some-field_named (layout_of c.args.self.now c.args.class) c.args.name.now
