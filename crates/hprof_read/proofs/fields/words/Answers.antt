use Rattle.std.proofs.lemmas.Result.{err_from_is_err_and}
use Rattle.std.specs.Int.{w32}
use Rattle.hprof_read.specs.Reading.{times, number}
use Rattle.hprof_read.proofs.Loop.{goes_on, ends, is_done}
use Rattle.hprof_read.proofs.fields.words.Goals as goal

pub returns-in_err-id : goal.returns-in_err-id
returns-in_err-id c =
    let p = err_from_is_err_and c.from_residual.result c.from_residual.ensures.1 in
    rw (p.1, p.2) (ends (number w32) c.in_err-id.field-0.0 c.loop.ids c.args.count c.loop.counter c.loop.rest.now (times c.args.count (number w32) c.args.bytes.now) c.loop-test.true c.in_err-id.ensures c.loop.invariant)

pub loop-preserved : goal.loop-preserved
loop-preserved c =
    rw c.in_ok-push.ensures.pushed (goes_on (number w32) c.loop.ids c.args.count c.loop.counter c.loop.rest.now c.in_ok-id.id c.in_ok-id.after.now (times c.args.count (number w32) c.args.bytes.now) c.loop-test.true c.in_ok-id.ensures c.loop.invariant)

pub returns : goal.returns
returns c = is_done (number w32) c.loop.ids c.args.count c.loop.counter c.loop.rest.now (times c.args.count (number w32) c.args.bytes.now) c.loop-test.false c.loop.invariant
