use Rattle.std.proofs.Common.{refl}
use Rattle.std.specs.Fmt.{digits}
use Rattle.script_report.proofs.own_examples.report_of_a_child_alone.Goals as goal

pub returns : goal.returns
unfolding digits
returns c = refl
