use Rattle.std.proofs.Common.{ap, arith}
use Rattle.std.proofs.lemmas.Result.{err_from_is_err_and}
use Rattle.hprof_records.specs.Parts.{constant_bytes}
use Rattle.hprof_list.proofs.Putting.{each_done, each_more, each_stop}
use Rattle.hprof_bytes.proofs.parts.put_constants.Goals as goal

pub returns-in_err-put_constant : goal.returns-in_err-put_constant
returns-in_err-put_constant g c =
    let p = err_from_is_err_and c.from_residual.result c.from_residual.ensures.1 in
    rw p.1 (each_stop constant_bytes c.args.list.now c.loop-one.one-index _ _ _ _ _ _ _ _ c.loop-one-test.true (ap constant_bytes c.one-item.is) c.loop-one.invariant c.in_err-put_constant.ensures)

pub loop-one-preserved : goal.loop-one-preserved
loop-one-preserved g c =
    each_more constant_bytes c.args.list.now c.loop-one.one-index _ _ _ _ _ _ _ _ c.loop-one-test.true (ap constant_bytes c.one-item.is) c.loop-one.invariant c.in_ok-put_constant.ensures

pub returns : goal.returns
returns g c = each_done constant_bytes c.args.list.now c.loop-one.one-index _ _ _ _ (omega arith) c.loop-one.invariant
