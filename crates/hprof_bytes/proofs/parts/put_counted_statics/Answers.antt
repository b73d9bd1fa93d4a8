use Rattle.std.proofs.Common.{List, ℕ, ◌++◌, ap}
use Rattle.std.specs.List.{flat_map}
use Rattle.std.proofs.lemmas.Result.{err_from_is_err_and}
use Rattle.hprof_records.specs.Parts.{static_bytes}
use Rattle.hprof_list.proofs.Putting.{then_put, stopped}
use Rattle.hprof_bytes.proofs.parts.put_counted_statics.Goals as goal

pub returns-in_err-put_piece : goal.returns-in_err-put_piece
returns-in_err-put_piece g c =
    let p = err_from_is_err_and c.from_residual.result c.from_residual.ensures.1 in
    rw p.1 (stopped _ _ _ (flat_map static_bytes c.args.list.now) _ _ _ c.in_err-put_piece.ensures (ap (λ (x : List ℕ). x ++ flat_map static_bytes c.args.list.now) c.half.ensures))

pub returns : goal.returns
returns g c = then_put _ _ _ _ _ _ _ _ _ _ c.in_ok-put_piece.ensures c.put_statics.ensures (ap (λ (x : List ℕ). x ++ flat_map static_bytes c.args.list.now) c.half.ensures)
