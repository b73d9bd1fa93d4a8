use Rattle.std.proofs.Common.{sym, subst}
use Rattle.std.proofs.lemmas.Result.{err_from_is_err_and}
use Rattle.job_status.specs.declared.stop.Stop.{Stop}
use Rattle.read_job.specs.Telling.{StoppedTelling}
use Rattle.read_job.proofs.Endings.{stops_telling}
use Rattle.read_job.proofs.told.tell.Goals as goal

pub returns-in_err-put_fault-in-Err-clause-told : goal.returns-in_err-put_fault-in-Err-clause-told
returns-in_err-put_fault-in-Err-clause-told g c =
    let p = err_from_is_err_and c.from_residual-in_err-put_fault-in-Err.result c.from_residual-in_err-put_fault-in-Err.ensures.1 in
    let told = g.W.Sink.gained in
    let puts = g.W.Sink.fault_count in
    let from = c.args.sink.now in
    let to = c.put_fault.new.sink in
    rw p.1
    (subst (λ (stop : Stop). StoppedTelling c.args.question stop c.args.text.items (told from) (puts from) (told to) (puts to)) (sym p.2)
    (stops_telling c.args.question c.in_err-put_fault-in-Err.field-0.0 c.in-Err.fault c.args.text.items (told from) (puts from) (told to) (puts to) c.in-Err.ensures.fault c.in_err-put_fault-in-Err.ensures.told))
