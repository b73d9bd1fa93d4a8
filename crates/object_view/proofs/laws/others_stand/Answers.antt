use Rattle.object_view.proofs.Standing.{Stands-beside}
use Rattle.object_view.proofs.laws.others_stand.Goals as goal

pub returns : goal.returns
returns c = Stands-beside
