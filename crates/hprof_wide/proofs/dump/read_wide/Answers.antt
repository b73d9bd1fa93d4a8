use Rattle.std.proofs.Common.{inr}
use Rattle.std.proofs.lemmas.Result.{err_from_is_err_and}
use Rattle.hprof_wide.specs.Reading.{width_of}
use Rattle.hprof_wide.proofs.dump.read_wide.Goals as goal

pub returns-in_err-top-clause-fault : goal.returns-in_err-top-clause-fault
returns-in_err-top-clause-fault c =
    let p = err_from_is_err_and c.from_residual-in_err-top.result c.from_residual-in_err-top.ensures.1 in
    let header = c.in_ok-size.ensures.found in
    rw (p.1, p.2) (λ other. inr (header.0, width_of c.in_ok-size.size, c.in_ok-size.time, c.in_ok-size.rest.now, (header.1.0, header.1.1, c.in_err-top.ensures.fault other)))
