use Rattle.process_steps.proofs.QuietSteps.{dump-acts}
use Rattle.process_steps.proofs.quiet.counted_dumps_act.Goals as goal

pub returns : goal.returns
returns c = dump-acts
