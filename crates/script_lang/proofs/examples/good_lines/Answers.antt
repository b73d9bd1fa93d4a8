use Rattle.std.proofs.Common.{refl}
use Rattle.std.specs.Fmt.{digits}
use Rattle.script_lang.proofs.examples.good_lines.Goals as goal

pub returns : goal.returns
unfolding digits
returns c = refl
