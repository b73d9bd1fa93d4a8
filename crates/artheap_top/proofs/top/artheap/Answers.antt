use Rattle.std.proofs.Common.{sym, subst}
use Rattle.script_run.specs.Ends.{EndedRun}
use Rattle.script_run.specs.Outside.{Outside, Setting, outside_of, output_of}
use Rattle.artheap_top.specs.Soaking.{EndedSoak, SoakOutput, soak_output}
use Rattle.artheap_top.proofs.Completeness.{run_completes, soak_completes}
use Rattle.artheap_top.proofs.top.artheap.Goals as goal

pub returns-in-Some-Run-clause-run_complete : goal.returns-in-Some-Run-clause-run_complete
returns-in-Some-Run-clause-run_complete g c = λ _ _ _ few reads puts shelvings.
    let s : Setting = record { budget = c.in-Some-Run.regions; time = c.in-Some-Run.time } in
    let left = g.S.Source.left in
    let reads_ = g.S.Source.fault_count in
    let told = g.W.Sink.gained in
    let puts_ = g.W.Sink.fault_count in
    let shelved_ = g.F.Shelf.shelved in
    let shelvings_ = g.F.Shelf.fault_count in
    let run = c.run_script.new in
    let old : Outside = outside_of (left c.args.source.now) (reads_ c.args.source.now)
    (output_of (told c.args.sink.now) (puts_ c.args.sink.now) (shelved_ c.args.shelf.now) (shelvings_ c.args.shelf.now) c.args.machine.now) in
    let new : Outside = outside_of (left run.source) (reads_ run.source) (output_of (told run.sink) (puts_ run.sink) (shelved_ run.shelf) (shelvings_ run.shelf) run.machine) in
    run_completes s c.job_status.result old new (subst (λ x. EndedRun s x old new) (sym c.job_status.ensures) c.run_script.ensures.ended) few reads puts shelvings

pub returns-in-Some-Soak-clause-soak_complete : goal.returns-in-Some-Soak-clause-soak_complete
returns-in-Some-Soak-clause-soak_complete g c = λ _ _ _ _ puts.
    let job = c.in-Some-Soak in
    let told = g.W.Sink.gained in
    let puts_ = g.W.Sink.fault_count in
    let old : SoakOutput = soak_output (told c.args.sink.now) (puts_ c.args.sink.now) c.args.machine.now in
    let new : SoakOutput = soak_output (told c.soak.new.sink) (puts_ c.soak.new.sink) c.soak.new.machine in
    soak_completes job.regions job.start job.count c.job_status-in-Some-Soak.result old new
    (subst (λ x. EndedSoak job.regions job.start job.count x old new) (sym c.job_status-in-Some-Soak.ensures) c.soak.ensures.ended) puts
