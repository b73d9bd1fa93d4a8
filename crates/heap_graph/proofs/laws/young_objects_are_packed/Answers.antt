use Rattle.heap_graph.proofs.Sizes.{young-packed}
use Rattle.heap_graph.proofs.laws.young_objects_are_packed.Goals as goal

pub returns : goal.returns
returns c = young-packed
