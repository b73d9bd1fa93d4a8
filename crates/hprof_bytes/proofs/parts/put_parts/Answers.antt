use Rattle.std.proofs.Common.{ap, arith}
use Rattle.std.proofs.lemmas.Result.{err_from_is_err_and}
use Rattle.hprof_records.specs.Parts.{bytes_of_part}
use Rattle.hprof_list.proofs.Putting.{each_done, each_more, each_stop}
use Rattle.hprof_bytes.proofs.parts.put_parts.Goals as goal

pub returns-in_err-put_part : goal.returns-in_err-put_part
returns-in_err-put_part g c =
    let p = err_from_is_err_and c.from_residual.result c.from_residual.ensures.1 in
    rw p.1 (each_stop bytes_of_part c.args.parts.now c.loop-part.part-index _ _ _ _ _ _ _ _ c.loop-part-test.true (ap bytes_of_part c.part-item.is) c.loop-part.invariant c.in_err-put_part.ensures)

pub loop-part-preserved : goal.loop-part-preserved
loop-part-preserved g c =
    each_more bytes_of_part c.args.parts.now c.loop-part.part-index _ _ _ _ _ _ _ _ c.loop-part-test.true (ap bytes_of_part c.part-item.is) c.loop-part.invariant c.in_ok-put_part.ensures

pub returns : goal.returns
returns g c = each_done bytes_of_part c.args.parts.now c.loop-part.part-index _ _ _ _ (omega arith) c.loop-part.invariant
