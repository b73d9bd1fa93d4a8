use Rattle.class_layout.proofs.Layouts.{layout_of-parts}
use Rattle.class_layout.proofs.laws.layout_rule.Goals as goal

pub returns : goal.returns
returns c = layout_of-parts
