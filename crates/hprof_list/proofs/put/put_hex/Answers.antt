use Rattle.std.proofs.Common.{rules}
use Rattle.std.proofs.lemmas.Result.{err_from_is_err_and}
use Rattle.hprof_list.proofs.Putting.{chunk_more, chunk_stop}
use Rattle.hprof_list.proofs.put.put_hex.Goals as goal

pub returns-in_err-put_chunk : goal.returns-in_err-put_chunk
returns-in_err-put_chunk g c =
    let p = err_from_is_err_and c.from_residual.result c.from_residual.ensures.1 in
    rw p.1 (chunk_stop _ _ c.args.bytes.now c.loop-done.done c.min.result _ _ _ _ c.loop-done.invariant.never_falls c.loop-done.invariant.gained c.in_err-put_chunk.ensures)

pub loop-done-preserved : goal.loop-done-preserved
loop-done-preserved g c = record {
  in_range = search rules;
  never_falls = search rules;
  gained = chunk_more _ c.args.bytes.now c.loop-done.done c.min.result _ _ c.loop-done.invariant.gained c.in_ok-put_chunk.ensures.1;
}
