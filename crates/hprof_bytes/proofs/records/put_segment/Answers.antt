use Rattle.std.proofs.lemmas.Result.{err_from_is_err_and}
use Rattle.hprof_records.specs.Parts.{bytes_of_parts}
use Rattle.hprof_list.proofs.Putting.{then_put, stopped}
use Rattle.hprof_bytes.proofs.Frames.{segment-frame}
use Rattle.hprof_bytes.proofs.records.put_segment.Goals as goal

pub returns-in_err-put_pieces : goal.returns-in_err-put_pieces
returns-in_err-put_pieces g c =
    let p = err_from_is_err_and c.from_residual.result c.from_residual.ensures.1 in
    rw p.1 (stopped _ _ _ (bytes_of_parts c.args.parts.now) _ _ _ c.in_err-put_pieces.ensures
    (simp (c.byte.ensures, c.word.ensures, c.word-2.ensures) (segment-frame c.args.time c.args.tag c.args.size c.args.parts.now c.requires.counted)))

pub returns : goal.returns
returns g c =
    then_put _ _ _ _ _ _ _ _ _ _ c.in_ok-put_pieces.ensures c.put_parts.ensures
    (simp (c.byte.ensures, c.word.ensures, c.word-2.ensures) (segment-frame c.args.time c.args.tag c.args.size c.args.parts.now c.requires.counted))
