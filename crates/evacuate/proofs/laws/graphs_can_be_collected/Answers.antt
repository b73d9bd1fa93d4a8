use Rattle.evacuate.proofs.Can.{can}
use Rattle.evacuate.proofs.laws.graphs_can_be_collected.Goals as goal

pub returns : goal.returns
returns c = can
