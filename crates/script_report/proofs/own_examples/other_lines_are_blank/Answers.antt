use Rattle.std.proofs.Common.{refl}
use Rattle.std.specs.Fmt.{digits}
use Rattle.script_report.proofs.own_examples.other_lines_are_blank.Goals as goal

pub returns : goal.returns
unfolding digits
returns c = refl
