use Rattle.std.proofs.Common.{◌≡◌, ◌≢◌, ◌+◌, length, refl, sym, ap, subst, arith, [], ◌∷◌, ◌++◌}
use Rattle.hprof_records.specs.declared.sub_record.SubRecord.{SubRecord}
use Rattle.std.proofs.Common.{List}
use Rattle.hprof_read.specs.declared.read_error.ReadError.{ReadError}
use Rattle.hprof_read.specs.declared.read_error.ReadError.TheVariants as errors
use Rattle.hprof_read.specs.Reading.{part_fault}
use Rattle.hprof_read.specs.Fault.{BodyFault}
use Rattle.hprof_records.specs.Parts.{bytes_of_parts}
use Rattle.std.proofs.lemmas.List.{length-append}
use Rattle.hprof_read.proofs.Segments.{OneMore, all_bytes, part_read, within, fault_of_part, some_bytes}
use Rattle.hprof_read.proofs.Formats.{AreBytes, AreBytes-right}
use Rattle.hprof_read.proofs.records.read_parts.Goals as goal

pub loop-rest-smaller : goal.loop-rest-smaller
loop-rest-smaller c =
    (part_read c.args.body.now c.loop-rest.parts c.loop-rest.rest.now c.in-Ok.part c.in-Ok.after.now (all_bytes c.args.body.now (λ i. omega (arith, c.type_inv.body i))) c.loop-rest.invariant.whole c.loop-rest.invariant.formed c.in-Ok.ensures).shorter

pub loop-rest-preserved : goal.loop-rest-preserved
loop-rest-preserved c =
    let one : OneMore c.args.body.now (c.loop-rest.parts ++ c.in-Ok.part ∷ []) c.loop-rest.rest.now c.in-Ok.after.now =
    part_read c.args.body.now c.loop-rest.parts c.loop-rest.rest.now c.in-Ok.part c.in-Ok.after.now (all_bytes c.args.body.now (λ i. omega (arith, c.type_inv.body i))) c.loop-rest.invariant.whole c.loop-rest.invariant.formed c.in-Ok.ensures in
    let more : OneMore c.args.body.now c.push.new.self c.loop-rest.rest.now c.in-Ok.after.now =
    subst (λ (ps : List SubRecord). OneMore c.args.body.now ps c.loop-rest.rest.now c.in-Ok.after.now) (sym c.in_ok-push-in-Ok.ensures.pushed) one in
    record { whole = more.whole; formed = more.formed; place = refl }

pub fault_of-requires-clause-within : goal.fault_of-requires-clause-within
fault_of-requires-clause-within c =
    let fits : AreBytes c.loop-rest.rest.now = AreBytes-right (bytes_of_parts c.loop-rest.parts) c.loop-rest.rest.now (subst AreBytes c.loop-rest.invariant.whole (all_bytes c.args.body.now (λ i. omega (arith, c.type_inv.body i)))) in
    within c.in-Err.halt c.loop-rest.rest.now fits c.in-Err.ensures

pub returns-in-Err-clause-fault : goal.returns-in-Err-clause-fault
returns-in-Err-clause-fault c =
    let rest = c.loop-rest.rest.now in
    let parts = c.loop-rest.parts in
    let whole = c.loop-rest.invariant.whole in
    let fits : AreBytes rest = AreBytes-right (bytes_of_parts parts) rest (subst AreBytes whole (all_bytes c.args.body.now (λ i. omega (arith, c.type_inv.body i)))) in
    let q = c.args.at + length (bytes_of_parts parts) in
    let end = c.args.at + length c.args.body.now in
    let sums : q + length rest ≡ end = omega (arith, ap length whole, length-append (bytes_of_parts parts) rest) in
    let told : part_fault c.in-Err.halt (length rest) end ≢ errors.OutOfMemory → BodyFault (part_fault c.in-Err.halt (length rest) end) c.args.body.now c.args.at =
    λ other. let f = fault_of_part c.in-Err.halt rest q end fits c.in-Err.ensures sums other in
    (parts, rest, (c.loop-rest.invariant.formed, whole, some_bytes rest c.is_empty.result c.is_empty.ensures c.loop-rest-test.true, f.0, f.1)) in
    subst (λ (e : ReadError). e ≢ errors.OutOfMemory → BodyFault e c.args.body.now c.args.at) (sym c.fault_of.ensures) told
