use Rattle.process_steps.proofs.MadeYoung.{made-young}
use Rattle.process_steps.proofs.made.young_objects_act.Goals as goal

pub returns : goal.returns
returns c = made-young
