use Rattle.object_view.proofs.Standing.{Stands-copied}
use Rattle.object_view.proofs.laws.copies_stand.Goals as goal

pub returns : goal.returns
returns c = Stands-copied
