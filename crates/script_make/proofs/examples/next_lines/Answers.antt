use Rattle.std.proofs.Common.{refl}
use Rattle.std.specs.Fmt.{digits}
use Rattle.script_make.proofs.examples.next_lines.Goals as goal

pub returns : goal.returns
unfolding digits
returns c = refl
