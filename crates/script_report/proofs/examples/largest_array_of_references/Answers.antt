use Rattle.std.proofs.Common.{refl}
use Rattle.std.specs.Fmt.{digits}
use Rattle.script_report.proofs.examples.largest_array_of_references.Goals as goal

pub returns : goal.returns
unfolding digits
returns c = refl
