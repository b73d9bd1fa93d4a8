use Rattle.std.proofs.Common.{arith}
use Rattle.std.proofs.lemmas.Result.{err_from_is_err_and}
use Rattle.hprof_read.proofs.Segments.{all_bytes}
use Rattle.hprof_read.proofs.Bodies.{frame_lengths}
use Rattle.hprof_wide.proofs.Bodies.{record_stands, record_fault, cut_fault}
use Rattle.hprof_read.proofs.Formats.{AreBytes}
use Rattle.hprof_wide.proofs.records.read_record.Goals as goal

pub read_body-requires-clause-place : goal.read_body-requires-clause-place
read_body-requires-clause-place c =
    let bytes = c.args.bytes.now in
    let fits : AreBytes bytes = all_bytes bytes (λ i. omega (arith, c.type_inv.bytes i)) in
    let long = frame_lengths bytes c.in-Ok.tag c.in-Ok.time c.in-Ok.body.now c.in-Ok.rest.now fits c.in-Ok.ensures in
    omega (arith, long.0)

pub read_body-requires-clause-short : goal.read_body-requires-clause-short
read_body-requires-clause-short c =
    let bytes = c.args.bytes.now in
    let fits : AreBytes bytes = all_bytes bytes (λ i. omega (arith, c.type_inv.bytes i)) in
    (frame_lengths bytes c.in-Ok.tag c.in-Ok.time c.in-Ok.body.now c.in-Ok.rest.now fits c.in-Ok.ensures).1

pub returns-in_err-record-in-Ok-clause-fault : goal.returns-in_err-record-in-Ok-clause-fault
returns-in_err-record-in-Ok-clause-fault c =
    let bytes = c.args.bytes.now in
    let fits : AreBytes bytes = all_bytes bytes (λ i. omega (arith, c.type_inv.bytes i)) in
    let p = err_from_is_err_and c.from_residual.result c.from_residual.ensures.1 in
    rw (p.1, p.2) (λ other. record_fault c.args.size c.in_err-record-in-Ok.field-0.0 bytes c.in-Ok.tag c.in-Ok.time c.in-Ok.body.now c.in-Ok.rest.now c.args.at fits c.in-Ok.ensures (c.in_err-record-in-Ok.ensures.fault other))

pub returns-in_ok-record-in-Ok-clause-found : goal.returns-in_ok-record-in-Ok-clause-found
returns-in_ok-record-in-Ok-clause-found c =
    let bytes = c.args.bytes.now in
    let fits : AreBytes bytes = all_bytes bytes (λ i. omega (arith, c.type_inv.bytes i)) in
    record_stands c.args.size bytes c.in-Ok.tag c.in-Ok.time c.in-Ok.body.now c.in-Ok.rest.now c.in_ok-record-in-Ok.record fits c.in-Ok.ensures c.in_ok-record-in-Ok.ensures.found

pub returns-in-Err-Stopped-clause-fault : goal.returns-in-Err-Stopped-clause-fault
returns-in-Err-Stopped-clause-fault c =
    let bytes = c.args.bytes.now in
    let fits : AreBytes bytes = all_bytes bytes (λ i. omega (arith, c.type_inv.bytes i)) in
    λ other. cut_fault c.args.size bytes c.in-Err-Stopped.field-0 c.in-Err-Stopped.field-0-0 c.args.at fits c.in-Err-Stopped.field-0-is c.in-Err-Stopped.ensures
