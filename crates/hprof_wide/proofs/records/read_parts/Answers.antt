use Rattle.std.proofs.Common.{◌≡◌, ◌≢◌, ◌+◌, length, refl, sym, ap, subst, arith, List, [], ◌∷◌, ◌++◌}
use Rattle.std.proofs.lemmas.List.{length-append}
use Rattle.hprof_read.proofs.Formats.{AreBytes, AreBytes-right}
use Rattle.hprof_read.proofs.Segments.{all_bytes, some_bytes}
use Rattle.hprof_wide.specs.declared.wide_sub.WideSub.{WideSub}
use Rattle.hprof_wide.specs.declared.wide_error.WideError.{WideError}
use Rattle.hprof_wide.specs.declared.wide_error.WideError.TheVariants as errors
use Rattle.hprof_wide.specs.Parts.{wide_parts_bytes}
use Rattle.hprof_wide.specs.Reading.{width_of, part_fault}
use Rattle.hprof_wide.specs.Fault.{WideBodyFault}
use Rattle.hprof_wide.proofs.Segments.{OneMore, part_read, within, fault_of_part}
use Rattle.hprof_wide.proofs.records.read_parts.Goals as goal

pub loop-rest-smaller : goal.loop-rest-smaller
loop-rest-smaller c =
    (part_read c.args.size c.args.body.now c.loop-rest.parts c.loop-rest.rest.now c.in-Ok.part c.in-Ok.after.now (all_bytes c.args.body.now (λ i. omega (arith, c.type_inv.body i))) c.loop-rest.invariant.whole c.loop-rest.invariant.formed c.in-Ok.ensures).shorter

pub loop-rest-preserved : goal.loop-rest-preserved
loop-rest-preserved c =
    let one : OneMore c.args.size c.args.body.now (c.loop-rest.parts ++ c.in-Ok.part ∷ []) c.loop-rest.rest.now c.in-Ok.after.now =
    part_read c.args.size c.args.body.now c.loop-rest.parts c.loop-rest.rest.now c.in-Ok.part c.in-Ok.after.now (all_bytes c.args.body.now (λ i. omega (arith, c.type_inv.body i))) c.loop-rest.invariant.whole c.loop-rest.invariant.formed c.in-Ok.ensures in
    let more : OneMore c.args.size c.args.body.now c.push.new.self c.loop-rest.rest.now c.in-Ok.after.now =
    subst (λ (ps : List WideSub). OneMore c.args.size c.args.body.now ps c.loop-rest.rest.now c.in-Ok.after.now) (sym c.in_ok-push-in-Ok.ensures.pushed) one in
    record { whole = more.whole; formed = more.formed; place = refl }

pub fault_of-requires-clause-within : goal.fault_of-requires-clause-within
fault_of-requires-clause-within c =
    let fits : AreBytes c.loop-rest.rest.now = AreBytes-right (wide_parts_bytes (width_of c.args.size) c.loop-rest.parts) c.loop-rest.rest.now (subst AreBytes c.loop-rest.invariant.whole (all_bytes c.args.body.now (λ i. omega (arith, c.type_inv.body i)))) in
    within c.args.size c.in-Err.halt c.loop-rest.rest.now fits c.in-Err.ensures

pub returns-in-Err-clause-fault : goal.returns-in-Err-clause-fault
returns-in-Err-clause-fault c =
    let rest = c.loop-rest.rest.now in
    let parts = c.loop-rest.parts in
    let whole = c.loop-rest.invariant.whole in
    let fits : AreBytes rest = AreBytes-right (wide_parts_bytes (width_of c.args.size) parts) rest (subst AreBytes whole (all_bytes c.args.body.now (λ i. omega (arith, c.type_inv.body i)))) in
    let q = c.args.at + length (wide_parts_bytes (width_of c.args.size) parts) in
    let end = c.args.at + length c.args.body.now in
    let sums : q + length rest ≡ end = omega (arith, ap length whole, length-append (wide_parts_bytes (width_of c.args.size) parts) rest) in
    let told : part_fault c.in-Err.halt (length rest) end ≢ errors.OutOfMemory → WideBodyFault (width_of c.args.size) (part_fault c.in-Err.halt (length rest) end) c.args.body.now c.args.at =
    λ other. let f = fault_of_part c.args.size c.in-Err.halt rest q end fits c.in-Err.ensures sums other in
    (parts, rest, (c.loop-rest.invariant.formed, whole, some_bytes rest c.is_empty.result c.is_empty.ensures c.loop-rest-test.true, f.0, f.1)) in
    subst (λ (e : WideError). e ≢ errors.OutOfMemory → WideBodyFault (width_of c.args.size) e c.args.body.now c.args.at) (sym c.fault_of.ensures) told
