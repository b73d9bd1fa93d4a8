use Rattle.std.proofs.Common.{◌≢◌, List, ℕ, subst}
use Rattle.std.specs.Prelude.{IfErr}
use Rattle.hprof_read.specs.Fault.{IsFirstFault}
use Rattle.hprof_read.specs.declared.read_error.ReadError.TheVariants.{OutOfMemory}
use Rattle.read_job.proofs.dumps.read_text.Goals as goal

pub returns-clause-fault : goal.returns-clause-fault
returns-clause-fault c = subst (λ (text : List ℕ). IfErr c.read_dump.result (λ e. e ≢ OutOfMemory → IsFirstFault e text)) c.deref.ensures.value c.read_dump.ensures.fault
