use Rattle.std.proofs.Common.{refl}
use Rattle.std.specs.Fmt.{digits}
use Rattle.hprof_list.proofs.examples.listings.Goals as goal

pub returns : goal.returns
unfolding digits
returns c = record { small = refl; each = refl }
