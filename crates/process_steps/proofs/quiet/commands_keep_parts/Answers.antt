use Rattle.process_steps.proofs.QuietSteps.{kept-command}
use Rattle.process_steps.proofs.quiet.commands_keep_parts.Goals as goal

pub returns : goal.returns
returns c = λ s m p v h few. kept-command s m p h v few
