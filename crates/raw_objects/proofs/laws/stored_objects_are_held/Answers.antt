use Rattle.raw_objects.proofs.Raws.{raws-stored}
use Rattle.raw_objects.proofs.laws.stored_objects_are_held.Goals as goal

pub returns : goal.returns
returns c cs old new raws at kind offset place z h there is puts = raws-stored cs old new raws h at kind offset place z there is puts
