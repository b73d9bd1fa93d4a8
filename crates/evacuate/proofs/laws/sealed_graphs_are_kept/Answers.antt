use Rattle.evacuate.proofs.Sealed.{sealed-kept}
use Rattle.evacuate.proofs.laws.sealed_graphs_are_kept.Goals as goal

pub returns : goal.returns
returns c = sealed-kept
