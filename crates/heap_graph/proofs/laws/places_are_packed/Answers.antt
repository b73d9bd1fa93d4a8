use Rattle.heap_graph.proofs.Packing.{are_packed}
use Rattle.heap_graph.proofs.laws.places_are_packed.Goals as goal

pub returns : goal.returns
returns c = are_packed
