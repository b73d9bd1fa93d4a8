use Rattle.std.proofs.Common.{◌≢◌, List, ℕ, subst}
use Rattle.std.specs.Prelude.{IfErr}
use Rattle.hprof_wide.specs.Fault.{IsFirstWideFault}
use Rattle.hprof_wide.specs.declared.wide_error.WideError.TheVariants.{OutOfMemory}
use Rattle.read_job.proofs.dumps.read_wide_text.Goals as goal

pub returns-clause-fault : goal.returns-clause-fault
returns-clause-fault c = subst (λ (text : List ℕ). IfErr c.read_wide.result (λ e. e ≢ OutOfMemory → IsFirstWideFault e text)) c.deref.ensures.value c.read_wide.ensures.fault
