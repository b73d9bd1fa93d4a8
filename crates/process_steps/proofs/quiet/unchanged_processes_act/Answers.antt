use Rattle.process_steps.proofs.QuietSteps.{unchanged}
use Rattle.process_steps.proofs.quiet.unchanged_processes_act.Goals as goal

pub returns : goal.returns
returns c = unchanged
