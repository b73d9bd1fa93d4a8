use Rattle.object_view.proofs.Laid.{references-rise}
use Rattle.object_view.proofs.laws.references_rise.Goals as goal

pub returns : goal.returns
returns c = references-rise
