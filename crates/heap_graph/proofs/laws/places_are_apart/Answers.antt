use Rattle.heap_graph.proofs.Places.{one-place}
use Rattle.heap_graph.proofs.laws.places_are_apart.Goals as goal

pub returns : goal.returns
returns c = one-place
