use Rattle.std.proofs.Common.{refl}
use Rattle.std.proofs.lemmas.Result.{err_from_is_err_and}
use Rattle.hprof_list.proofs.Putting.{then_put, stopped, then_stopped}
use Rattle.hprof_bytes.proofs.parts.put_class_lists.Goals as goal

pub returns-in_err-put_counted_constants : goal.returns-in_err-put_counted_constants
returns-in_err-put_counted_constants g c =
    let p = err_from_is_err_and c.from_residual.result c.from_residual.ensures.1 in
    rw p.1 (stopped _ _ _ _ _ _ _ c.in_err-put_counted_constants.ensures refl)

pub returns-in_err-put_counted_statics : goal.returns-in_err-put_counted_statics
returns-in_err-put_counted_statics g c =
    let p = err_from_is_err_and c.from_residual-in_err-put_counted_statics.result c.from_residual-in_err-put_counted_statics.ensures.1 in
    rw p.1 (then_stopped _ _ _ _ _ _ _ _ _ _ c.in_ok-put_counted_constants.ensures c.in_err-put_counted_statics.ensures refl)

pub returns : goal.returns
returns g c =
    then_put _ _ _ _ _ _ _ _ _ _ c.in_ok-put_counted_constants.ensures (then_put _ _ _ _ _ _ _ _ _ _ c.in_ok-put_counted_statics.ensures c.put_counted_fields.ensures refl) refl
