use Rattle.raw_objects.proofs.Raws.{raws-same}
use Rattle.raw_objects.proofs.laws.same_objects_are_held.Goals as goal

pub returns : goal.returns
returns c = raws-same
