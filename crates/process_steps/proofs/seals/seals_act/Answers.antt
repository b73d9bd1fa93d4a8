use Rattle.process_steps.proofs.Sealing.{seal-acts}
use Rattle.process_steps.proofs.seals.seals_act.Goals as goal

pub returns : goal.returns
returns c = seal-acts
