use Rattle.std.proofs.Common.{sym}
use Rattle.std.proofs.lemmas.Result.{err_from_is_err_and}
use Rattle.hprof_list.proofs.Putting.{joined_is}
use Rattle.hprof_list.proofs.Putting.{then_put, stopped}
use Rattle.hprof_list.proofs.put.put_text_line.Goals as goal

pub returns-in_err-put_pieces : goal.returns-in_err-put_pieces
returns-in_err-put_pieces g c =
    let p = err_from_is_err_and c.from_residual.result c.from_residual.ensures.1 in
    rw p.1 (stopped _ _ _ _ _ _ _ c.in_err-put_pieces.ensures (sym (joined_is (λ p. p.now) c.args.pieces.now _)))

pub returns : goal.returns
returns g c = then_put _ _ _ _ _ _ _ _ _ _ c.in_ok-put_pieces.ensures c.put_text.ensures (sym (joined_is (λ p. p.now) c.args.pieces.now _))
