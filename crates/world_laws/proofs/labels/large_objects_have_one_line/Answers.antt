use Rattle.world_laws.proofs.LabelledPages.{step_one_line}
use Rattle.world_laws.proofs.labels.large_objects_have_one_line.Goals as goal

pub returns : goal.returns
returns c = step_one_line
