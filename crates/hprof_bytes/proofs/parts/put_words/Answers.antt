use Rattle.std.proofs.lemmas.Result.{err_from_is_err_and}
use Rattle.hprof_records.specs.Parts.{word}
use Rattle.hprof_list.proofs.Putting.{each_more, each_stop}
use Rattle.hprof_bytes.proofs.parts.put_words.Goals as goal

pub returns-in_err-put_piece : goal.returns-in_err-put_piece
returns-in_err-put_piece g c =
    let p = err_from_is_err_and c.from_residual.result c.from_residual.ensures.1 in
    rw p.1 (each_stop word c.args.ids.now c.loop-id.id-index _ _ _ _ _ _ _ _ c.loop-id-test.true c.word.ensures c.loop-id.invariant c.in_err-put_piece.ensures)

pub loop-id-preserved : goal.loop-id-preserved
loop-id-preserved g c =
    each_more word c.args.ids.now c.loop-id.id-index _ _ _ _ _ _ _ _ c.loop-id-test.true c.word.ensures c.loop-id.invariant c.in_ok-put_piece.ensures
