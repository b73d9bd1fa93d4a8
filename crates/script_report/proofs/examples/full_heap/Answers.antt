use Rattle.std.proofs.Common.{refl}
use Rattle.std.specs.Fmt.{digits}
use Rattle.script_report.proofs.examples.full_heap.Goals as goal

pub returns : goal.returns
unfolding digits
returns c = refl
