use Rattle.std.proofs.Common.{refl}
use Rattle.std.specs.Fmt.{digits}
use Rattle.script_make.proofs.examples.lines_from_7.Goals as goal

pub returns : goal.returns
unfolding digits
returns c = refl
