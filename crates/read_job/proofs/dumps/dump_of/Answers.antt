use Rattle.std.proofs.Common.{refl}
use Rattle.std.proofs.lemmas.Result.{IfOk-weaker}
use Rattle.read_job.proofs.dumps.dump_of.Goals as goal

pub returns-in-Listing-clause-dump : goal.returns-in-Listing-clause-dump
returns-in-Listing-clause-dump c = rw c.in-Listing.is (IfOk-weaker c.dump_in.result _ _ (λ d h. (h.1, (d.time, d.top, (h.0, h.1, h.2, refl)))) c.dump_in.ensures.dump)

pub returns-in-Path-clause-dump : goal.returns-in-Path-clause-dump
returns-in-Path-clause-dump c = rw c.in-Path.is (IfOk-weaker c.dump_in-in-Path.result _ _ (λ d h. (h.1, (d.time, d.top, (h.0, h.1, h.2, refl)))) c.dump_in-in-Path.ensures.dump)
