use Rattle.std.proofs.Common.{List, ℕ, [], ◌∷◌, ◌++◌, ap, sym}
use Rattle.std.proofs.lemmas.Result.{err_from_is_err_and}
use Rattle.hprof_list.proofs.Putting.{then_put, stopped, value_is}
use Rattle.hprof_list.proofs.put.put_value.Goals as goal

pub returns-in_err-put_hex : goal.returns-in_err-put_hex
returns-in_err-put_hex g c =
    let p = err_from_is_err_and c.from_residual.result c.from_residual.ensures.1 in
    rw p.1 (stopped _ _ _ _ _ _ _ c.in_err-put_hex.ensures (ap (λ (t : List ℕ). t ++ 10 ∷ []) (sym (value_is c.args.bytes.now c.if-is_empty.ensures))))

pub returns : goal.returns
returns g c = then_put _ _ _ _ _ _ _ _ _ _ c.in_ok-put_hex.ensures c.put_piece-2.ensures (ap (λ (t : List ℕ). t ++ 10 ∷ []) (sym (value_is c.args.bytes.now c.if-is_empty.ensures)))
