use Rattle.object_view.proofs.Standing.{Stands-stored}
use Rattle.object_view.proofs.laws.stored_values_stand.Goals as goal

pub returns : goal.returns
returns c = Stands-stored
