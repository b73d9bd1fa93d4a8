use Rattle.std.proofs.Common.{ap, arith}
use Rattle.std.proofs.lemmas.Result.{err_from_is_err_and}
use Rattle.hprof_records.specs.Parts.{static_bytes}
use Rattle.hprof_list.proofs.Putting.{each_done, each_more, each_stop}
use Rattle.hprof_bytes.proofs.parts.put_statics.Goals as goal

pub returns-in_err-put_static : goal.returns-in_err-put_static
returns-in_err-put_static g c =
    let p = err_from_is_err_and c.from_residual.result c.from_residual.ensures.1 in
    rw p.1 (each_stop static_bytes c.args.list.now c.loop-one.one-index _ _ _ _ _ _ _ _ c.loop-one-test.true (ap static_bytes c.one-item.is) c.loop-one.invariant c.in_err-put_static.ensures)

pub loop-one-preserved : goal.loop-one-preserved
loop-one-preserved g c =
    each_more static_bytes c.args.list.now c.loop-one.one-index _ _ _ _ _ _ _ _ c.loop-one-test.true (ap static_bytes c.one-item.is) c.loop-one.invariant c.in_ok-put_static.ensures

pub returns : goal.returns
returns g c = each_done static_bytes c.args.list.now c.loop-one.one-index _ _ _ _ (omega arith) c.loop-one.invariant
