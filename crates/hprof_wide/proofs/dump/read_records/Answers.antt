use Rattle.std.proofs.Common.{◌≡◌, ◌+◌, ◌-◌, List, length, refl, sym, ap, subst, arith}
use Rattle.std.proofs.lemmas.List.{length-append}
use Rattle.std.proofs.lemmas.Result.{err_from_is_err_and}
use Rattle.hprof_read.proofs.Segments.{some_bytes}
use Rattle.hprof_wide.specs.declared.wide_top.WideTop.{WideTop}
use Rattle.hprof_wide.specs.Records.{wide_records_bytes}
use Rattle.hprof_wide.specs.Reading.{width_of}
use Rattle.hprof_wide.specs.Fault.{WideRecordFault}
use Rattle.hprof_wide.proofs.Bodies.{OneMoreRecord, record_read}
use Rattle.hprof_wide.proofs.dump.read_records.Goals as goal

pub returns-in_err-record-clause-fault : goal.returns-in_err-record-clause-fault
returns-in_err-record-clause-fault c =
    let rest = c.loop-rest.rest.now in
    let top = c.loop-rest.top in
    let whole = c.loop-rest.invariant.whole in
    let e = c.in_err-record.field-0.0 in
    let there : (c.args.at + length c.args.bytes.now) - length rest ≡ c.args.at + length (wide_records_bytes (width_of c.args.size) top) = omega (arith, ap length whole, length-append (wide_records_bytes (width_of c.args.size) top) rest) in
    let p = err_from_is_err_and c.from_residual.result c.from_residual.ensures.1 in
    rw (p.1, p.2) (λ other. let f = c.in_err-record.ensures.fault other in
    (top, rest, (c.loop-rest.invariant.formed, whole, some_bytes rest c.is_empty.result c.is_empty.ensures c.loop-rest-test.true, f.0, subst (WideRecordFault (width_of c.args.size) e rest) there f.1)))

pub loop-rest-preserved : goal.loop-rest-preserved
loop-rest-preserved c =
    let one = record_read c.args.size c.args.bytes.now c.loop-rest.top c.loop-rest.rest.now c.in_ok-record.record c.in_ok-record.after.now c.loop-rest.invariant.whole c.loop-rest.invariant.formed c.in_ok-record.ensures.found.0 c.in_ok-record.ensures.found.1 in
    let more : OneMoreRecord c.args.size c.args.bytes.now c.push.new.self c.loop-rest.rest.now c.in_ok-record.after.now =
    subst (λ (rs : List WideTop). OneMoreRecord c.args.size c.args.bytes.now rs c.loop-rest.rest.now c.in_ok-record.after.now) (sym c.in_ok-push.ensures.pushed) one in
    record { whole = more.whole; formed = more.formed; place = refl }
