use Rattle.object_view.proofs.Standing.{Stands-forwarded}
use Rattle.object_view.proofs.laws.forwarded_objects_stand.Goals as goal

pub returns : goal.returns
returns c = Stands-forwarded
