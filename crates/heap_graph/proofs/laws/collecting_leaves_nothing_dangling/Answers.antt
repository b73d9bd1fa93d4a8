use Rattle.heap_graph.proofs.Kept.{nothing_dangles}
use Rattle.heap_graph.proofs.laws.collecting_leaves_nothing_dangling.Goals as goal

pub returns : goal.returns
returns c = nothing_dangles
