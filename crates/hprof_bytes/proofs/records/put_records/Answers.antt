use Rattle.std.proofs.Common.{ap, arith}
use Rattle.std.proofs.lemmas.Result.{err_from_is_err_and}
use Rattle.hprof_records.specs.Records.{bytes_of_record}
use Rattle.hprof_list.proofs.Putting.{each_done, each_more, each_stop}
use Rattle.hprof_bytes.proofs.records.put_records.Goals as goal

pub returns-in_err-put_record : goal.returns-in_err-put_record
returns-in_err-put_record g c =
    let p = err_from_is_err_and c.from_residual.result c.from_residual.ensures.1 in
    rw p.1 (each_stop bytes_of_record c.args.records.now c.loop-one.one-index _ _ _ _ _ _ _ _ c.loop-one-test.true (ap bytes_of_record c.one-item.is) c.loop-one.invariant c.in_err-put_record.ensures)

pub loop-one-preserved : goal.loop-one-preserved
loop-one-preserved g c =
    each_more bytes_of_record c.args.records.now c.loop-one.one-index _ _ _ _ _ _ _ _ c.loop-one-test.true (ap bytes_of_record c.one-item.is) c.loop-one.invariant c.in_ok-put_record.ensures

pub returns : goal.returns
returns g c = each_done bytes_of_record c.args.records.now c.loop-one.one-index _ _ _ _ (omega arith) c.loop-one.invariant
