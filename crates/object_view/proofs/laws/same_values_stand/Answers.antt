use Rattle.object_view.proofs.Standing.{Stands-same}
use Rattle.object_view.proofs.laws.same_values_stand.Goals as goal

pub returns : goal.returns
returns c = Stands-same
