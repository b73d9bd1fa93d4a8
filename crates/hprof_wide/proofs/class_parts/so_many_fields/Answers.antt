use Rattle.std.proofs.lemmas.Result.{err_from_is_err_and}
use Rattle.hprof_read.specs.Reading.{times}
use Rattle.hprof_wide.specs.Reading.{field_name}
use Rattle.hprof_read.proofs.Loop.{goes_on, ends, is_done}
use Rattle.hprof_wide.proofs.class_parts.so_many_fields.Goals as goal

pub returns-in_err-one : goal.returns-in_err-one
returns-in_err-one c =
    let p = err_from_is_err_and c.from_residual.result c.from_residual.ensures.1 in
    rw (p.1, p.2) (ends (field_name c.args.size) c.in_err-one.field-0.0 c.loop.list c.args.count c.loop.counter c.loop.rest.now (times c.args.count (field_name c.args.size) c.args.bytes.now) c.loop-test.true c.in_err-one.ensures c.loop.invariant)

pub loop-preserved : goal.loop-preserved
loop-preserved c =
    rw c.in_ok-push.ensures.pushed (goes_on (field_name c.args.size) c.loop.list c.args.count c.loop.counter c.loop.rest.now c.in_ok-one.one c.in_ok-one.after.now (times c.args.count (field_name c.args.size) c.args.bytes.now) c.loop-test.true c.in_ok-one.ensures c.loop.invariant)

pub returns : goal.returns
returns c = is_done (field_name c.args.size) c.loop.list c.args.count c.loop.counter c.loop.rest.now (times c.args.count (field_name c.args.size) c.args.bytes.now) c.loop-test.false c.loop.invariant
