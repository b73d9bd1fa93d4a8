use Rattle.std.proofs.Common.{refl}
use Rattle.std.specs.Fmt.{digits}
use Rattle.read_job.proofs.examples.each_wide_fault.Goals as goal

pub returns : goal.returns
unfolding digits
returns c = record { magic = refl; id_size = refl; cut_short = refl; unknown_tag = refl; past_end = refl; bad_type = refl }
