use Rattle.std.proofs.Common.{refl}
use Rattle.std.specs.Fmt.{digits}
use Rattle.script_report.proofs.examples.large_and_small.Goals as goal

pub returns : goal.returns
unfolding digits
returns c = refl
