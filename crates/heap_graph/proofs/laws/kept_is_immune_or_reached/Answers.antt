use Rattle.heap_graph.proofs.Kept.{kept_is}
use Rattle.heap_graph.proofs.laws.kept_is_immune_or_reached.Goals as goal

pub returns : goal.returns
returns c = kept_is
