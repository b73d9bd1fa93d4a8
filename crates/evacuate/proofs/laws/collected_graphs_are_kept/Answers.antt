use Rattle.evacuate.proofs.Kept.{graph-kept}
use Rattle.evacuate.proofs.laws.collected_graphs_are_kept.Goals as goal

pub returns : goal.returns
returns c h old new t g regions rows roots slots keeps collected leaves out = graph-kept h old new t g regions rows roots slots keeps collected leaves out
