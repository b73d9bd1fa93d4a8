use Rattle.std.proofs.lemmas.List.{append-nil}
use Rattle.std.proofs.lemmas.Result.{err_from_is_err_and}
use Rattle.std.specs.List.{flat_map}
use Rattle.hprof_records.specs.Parts.{word}
use Rattle.hprof_list.proofs.Putting.{then_put, stopped}
use Rattle.hprof_bytes.proofs.parts.put_array.Goals as goal

pub returns-in_err-put_pieces : goal.returns-in_err-put_pieces
returns-in_err-put_pieces g c =
    let p = err_from_is_err_and c.from_residual.result c.from_residual.ensures.1 in
    rw p.1 (stopped _ _ _ (flat_map word c.args.items.now) _ _ _ c.in_err-put_pieces.ensures (simp (c.byte.ensures, c.word-id.ensures, c.word-stack.ensures, c.word-count.ensures, c.word-class.ensures, append-nil)))

pub returns : goal.returns
returns g c = then_put _ _ _ _ _ _ _ _ _ _ c.in_ok-put_pieces.ensures c.put_words.ensures (simp (c.byte.ensures, c.word-id.ensures, c.word-stack.ensures, c.word-count.ensures, c.word-class.ensures, append-nil))
