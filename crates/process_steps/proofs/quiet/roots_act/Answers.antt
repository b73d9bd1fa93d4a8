use Rattle.process_steps.proofs.QuietSteps.{drop-acts, root-acts}
use Rattle.process_steps.proofs.quiet.roots_act.Goals as goal

pub returns : goal.returns
returns c = record { written = root-acts; dropped = drop-acts }
