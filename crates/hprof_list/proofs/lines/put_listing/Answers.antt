use Rattle.std.proofs.Common.{refl}
use Rattle.std.proofs.lemmas.Result.{err_from_is_err_and}
use Rattle.hprof_list.proofs.Putting.{then_put, stopped, then_stopped}
use Rattle.hprof_list.proofs.lines.put_listing.Goals as goal

pub returns-in_err-put_header : goal.returns-in_err-put_header
returns-in_err-put_header g c =
    let p = err_from_is_err_and c.from_residual.result c.from_residual.ensures.1 in
    rw p.1 (stopped _ _ _ _ _ _ _ c.in_err-put_header.ensures refl)

pub returns-in_err-put_records : goal.returns-in_err-put_records
returns-in_err-put_records g c =
    let p = err_from_is_err_and c.from_residual-in_err-put_records.result c.from_residual-in_err-put_records.ensures.1 in
    rw p.1 (then_stopped _ _ _ _ _ _ _ _ _ _ c.in_ok-put_header.ensures c.in_err-put_records.ensures refl)

pub returns : goal.returns
returns g c =
    then_put _ _ _ _ _ _ _ _ _ _ c.in_ok-put_header.ensures (then_put _ _ _ _ _ _ _ _ _ _ c.in_ok-put_records.ensures c.put_last.ensures refl) refl
