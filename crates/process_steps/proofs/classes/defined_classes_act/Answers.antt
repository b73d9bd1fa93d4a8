use Rattle.process_steps.proofs.ClassSteps.{class-acts}
use Rattle.process_steps.proofs.classes.defined_classes_act.Goals as goal

pub returns : goal.returns
returns c = class-acts
