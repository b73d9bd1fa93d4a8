use Rattle.raw_objects.proofs.Paging.{raws-among}
use Rattle.raw_objects.proofs.laws.fewer_objects_are_held.Goals as goal

pub returns : goal.returns
returns c = raws-among
