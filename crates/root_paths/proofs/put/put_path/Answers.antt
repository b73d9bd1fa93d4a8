use Rattle.std.proofs.Common.{refl}
use Rattle.std.proofs.lemmas.Result.{err_from_is_err_and}
use Rattle.hprof_list.proofs.Putting.{stopped, then_put, then_stopped}
use Rattle.root_paths.proofs.put.put_path.Goals as goal

pub returns-in_err-put_length : goal.returns-in_err-put_length
returns-in_err-put_length g c =
    let p = err_from_is_err_and c.from_residual.result c.from_residual.ensures.1 in
    rw p.1 (stopped _ _ _ _ _ _ _ c.in_err-put_length.ensures refl)

pub returns-in_err-put_way : goal.returns-in_err-put_way
returns-in_err-put_way g c =
    let p = err_from_is_err_and c.from_residual-in_err-put_way.result c.from_residual-in_err-put_way.ensures.1 in
    rw p.1 (then_stopped _ _ _ _ _ _ _ _ _ _ c.in_ok-put_length.ensures c.in_err-put_way.ensures refl)

pub returns : goal.returns
returns g c =
    then_put _ _ _ _ _ _ _ _ _ _ c.in_ok-put_length.ensures (then_put _ _ _ _ _ _ _ _ _ _ c.in_ok-put_way.ensures c.put_levels.ensures refl) refl
