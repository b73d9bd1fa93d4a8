use Rattle.std.proofs.Common.{[], inl, inr, refl}
use Rattle.std.proofs.lemmas.Result.{err_from_is_err_and}
use Rattle.script_make.specs.Script.{soak_lines}
use Rattle.artheap_top.specs.Soaking.{HasSoaked, SoakOutput, soak_output}
use Rattle.artheap_top.proofs.Soaks.{left_after, soak_ends, soak_stops}
use Rattle.artheap_top.proofs.soak.soak.Goals as goal

pub returns-in-Ok-clause-ended : goal.returns-in-Ok-clause-ended
returns-in-Ok-clause-ended g c =
    let regions = c.args.regions in
    let start = c.args.start in
    let count = c.args.count in
    let told = g.W.Sink.gained in
    let faults = g.W.Sink.fault_count in
    let old : SoakOutput = soak_output (told c.args.sink.now) (faults c.args.sink.now) c.args.machine.now in
    let new : SoakOutput = soak_output (told c.put.new.sink) (faults c.put.new.sink) c.run_script.new.machine in
    let had : HasSoaked regions (soak_lines start count) c.in_ok-tally.tally c.run_script.new.machine = c.in_ok-tally.ensures.done regions c.in_ok-prepare.ensures.ok in
    soak_ends regions start count c.in_ok-tally.tally c.in_ok-summary.summary old new
    had (c.in_ok-summary.ensures regions (soak_lines start count) had) c.in-Ok.ensures.ok

pub returns-in-Err-clause-ended : goal.returns-in-Err-clause-ended
returns-in-Err-clause-ended g c =
    let regions = c.args.regions in
    let start = c.args.start in
    let count = c.args.count in
    let told = g.W.Sink.gained in
    let faults = g.W.Sink.fault_count in
    let old : SoakOutput = soak_output (told c.args.sink.now) (faults c.args.sink.now) c.args.machine.now in
    let new : SoakOutput = soak_output (told c.put.new.sink) (faults c.put.new.sink) c.run_script.new.machine in
    let had : HasSoaked regions (soak_lines start count) c.in_ok-tally.tally c.run_script.new.machine = c.in_ok-tally.ensures.done regions c.in_ok-prepare.ensures.ok in
    soak_stops regions start count c.in_ok-tally.tally c.in_ok-summary.summary old new
    had (c.in_ok-summary.ensures regions (soak_lines start count) had) c.in-Err.ensures.failed c.in-Err.ensures.cause

pub returns-in_err-prepare-clause-ended : goal.returns-in_err-prepare-clause-ended
returns-in_err-prepare-clause-ended g c =
    let p = err_from_is_err_and c.from_residual.result c.from_residual.ensures.1 in
    rw (p.1, p.2)
    (refl, inl c.in_err-prepare.ensures.err)

pub returns-in_err-tally-clause-ended : goal.returns-in_err-tally-clause-ended
returns-in_err-tally-clause-ended g c =
    let p = err_from_is_err_and c.from_residual-in_err-tally.result c.from_residual-in_err-tally.ensures.1 in
    rw (p.1, p.2)
    (refl, inr (c.in_err-tally.ensures.left c.args.regions c.in_ok-prepare.ensures.ok))

pub returns-in_err-summary-clause-ended : goal.returns-in_err-summary-clause-ended
returns-in_err-summary-clause-ended g c =
    let p = err_from_is_err_and c.from_residual-in_err-summary.result c.from_residual-in_err-summary.ensures.1 in
    let had : HasSoaked c.args.regions (soak_lines c.args.start c.args.count) c.in_ok-tally.tally c.run_script.new.machine = c.in_ok-tally.ensures.done c.args.regions c.in_ok-prepare.ensures.ok in
    rw (p.1, p.2)
    (refl, inr (left_after c.args.regions [] c.run_script.new.machine (soak_lines c.args.start c.args.count) had.stands))
