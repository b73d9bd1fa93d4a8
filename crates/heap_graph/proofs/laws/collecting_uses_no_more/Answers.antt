use Rattle.heap_graph.proofs.Packing.{used_no_more}
use Rattle.heap_graph.proofs.laws.collecting_uses_no_more.Goals as goal

pub returns : goal.returns
returns c = used_no_more
