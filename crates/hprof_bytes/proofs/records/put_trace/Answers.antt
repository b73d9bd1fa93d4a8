use Rattle.std.proofs.Common.{◌++◌, refl}
use Rattle.std.proofs.lemmas.Result.{err_from_is_err_and}
use Rattle.std.specs.List.{flat_map}
use Rattle.hprof_records.specs.Parts.{word}
use Rattle.hprof_list.proofs.Putting.{then_put, stopped, then_stopped}
use Rattle.hprof_bytes.proofs.Frames.{trace-frame}
use Rattle.hprof_bytes.proofs.records.put_trace.Goals as goal

pub returns-in_err-put_pieces : goal.returns-in_err-put_pieces
returns-in_err-put_pieces g c =
    let p = err_from_is_err_and c.from_residual.result c.from_residual.ensures.1 in
    rw p.1 (stopped _ _ _ (flat_map word c.args.frames.now ++ c.args.rest.now) _ _ _ c.in_err-put_pieces.ensures
    (simp (c.byte-tag.ensures, c.word-time.ensures, c.word-length.ensures, c.word-serial.ensures, c.word-thread.ensures, c.word-count.ensures)
    (trace-frame c.args.time c.args.serial c.args.thread c.args.frames.now c.args.rest.now)))

pub returns-in_err-put_words : goal.returns-in_err-put_words
returns-in_err-put_words g c =
    let p = err_from_is_err_and c.from_residual-in_err-put_words.result c.from_residual-in_err-put_words.ensures.1 in
    rw p.1 (then_stopped _ _ _ _ _ _ c.args.rest.now _ _ _ c.in_ok-put_pieces.ensures c.in_err-put_words.ensures
    (simp (c.byte-tag.ensures, c.word-time.ensures, c.word-length.ensures, c.word-serial.ensures, c.word-thread.ensures, c.word-count.ensures)
    (trace-frame c.args.time c.args.serial c.args.thread c.args.frames.now c.args.rest.now)))

pub returns : goal.returns
returns g c =
    then_put _ _ _ _ _ (flat_map word c.args.frames.now ++ c.args.rest.now) _ _ _ _ c.in_ok-put_pieces.ensures
    (then_put _ _ _ _ _ c.args.rest.now (flat_map word c.args.frames.now ++ c.args.rest.now) _ _ _ c.in_ok-put_words.ensures c.put_piece.ensures refl)
    (simp (c.byte-tag.ensures, c.word-time.ensures, c.word-length.ensures, c.word-serial.ensures, c.word-thread.ensures, c.word-count.ensures)
    (trace-frame c.args.time c.args.serial c.args.thread c.args.frames.now c.args.rest.now))
