use Rattle.process_steps.proofs.MadeLarge.{made-large}
use Rattle.process_steps.proofs.made.large_objects_act.Goals as goal

pub returns : goal.returns
returns c = made-large
