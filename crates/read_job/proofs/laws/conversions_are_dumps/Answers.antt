use Rattle.std.proofs.Common.{refl}
use Rattle.hprof_convert.specs.Converted.{converted}
use Rattle.hprof_list.specs.Listing.{listing}
use Rattle.read_job.proofs.laws.conversions_are_dumps.Goals as goal

pub returns : goal.returns
returns c = λ text put (w, time, records, (is, laid, formed, puts)).
    (listing time (converted w records), (time, converted w records, (is.1.0.2, formed, puts, refl)))
