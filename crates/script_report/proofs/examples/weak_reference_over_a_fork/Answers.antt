use Rattle.std.proofs.Common.{refl}
use Rattle.std.specs.Fmt.{digits}
use Rattle.script_report.proofs.examples.weak_reference_over_a_fork.Goals as goal

pub returns : goal.returns
unfolding digits
returns c = refl
