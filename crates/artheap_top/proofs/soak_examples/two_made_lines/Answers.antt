use Rattle.std.proofs.Common.{refl}
use Rattle.std.specs.Fmt.{digits}
use Rattle.artheap_top.proofs.soak_examples.two_made_lines.Goals as goal

pub returns : goal.returns
unfolding digits
returns c = refl
