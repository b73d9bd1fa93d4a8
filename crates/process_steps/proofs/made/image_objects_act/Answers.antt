use Rattle.process_steps.proofs.MadeImage.{made-image}
use Rattle.process_steps.proofs.made.image_objects_act.Goals as goal

pub returns : goal.returns
returns c = made-image
