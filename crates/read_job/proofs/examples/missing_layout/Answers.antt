use Rattle.std.proofs.Common.{refl}
use Rattle.std.specs.Fmt.{digits}
use Rattle.read_job.proofs.examples.missing_layout.Goals as goal

pub returns : goal.returns
unfolding digits
returns c = refl
