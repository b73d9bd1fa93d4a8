use Rattle.std.proofs.Common.{refl}
use Rattle.std.specs.Fmt.{digits}
use Rattle.hprof_write.proofs.examples.first_line.Goals as goal

pub returns : goal.returns
unfolding digits
returns c = refl
