use Rattle.std.proofs.Common.{inr}
use Rattle.std.proofs.lemmas.Result.{err_from_is_err_and}
use Rattle.hprof_read.proofs.dump.read_dump.Goals as goal

pub returns-in_err-top-clause-fault : goal.returns-in_err-top-clause-fault
returns-in_err-top-clause-fault c =
    let p = err_from_is_err_and c.from_residual-in_err-top.result c.from_residual-in_err-top.ensures.1 in
    rw (p.1, p.2) (λ other. inr (c.in_ok-time.time, c.in_ok-time.rest.now, (c.in_ok-time.ensures.found.0, c.in_ok-time.ensures.found.1, c.in_err-top.ensures.fault other)))
