use Rattle.world_laws.proofs.Owning.{step_like_large}
use Rattle.world_laws.proofs.labels.equal_labels_are_of_one_object.Goals as goal

pub returns : goal.returns
returns c = step_like_large
