use Rattle.std.proofs.Common.{refl}
use Rattle.std.proofs.lemmas.Result.{err_from_is_err_and}
use Rattle.hprof_list.proofs.Putting.{then_put, stopped}
use Rattle.hprof_list.proofs.put.put_text.Goals as goal

pub returns-in_err-put_all_shown : goal.returns-in_err-put_all_shown
returns-in_err-put_all_shown g c =
    let p = err_from_is_err_and c.from_residual.result c.from_residual.ensures.1 in
    rw p.1 (stopped _ _ _ _ _ _ _ c.in_err-put_all_shown.ensures refl)

pub returns : goal.returns
returns g c = then_put _ _ _ _ _ _ _ _ _ _ c.in_ok-put_all_shown.ensures c.put_piece.ensures refl
