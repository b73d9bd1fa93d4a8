use Rattle.heap_graph.proofs.Places.{value-fits}
use Rattle.heap_graph.proofs.laws.values_fit_their_places.Goals as goal

pub returns : goal.returns
returns c = value-fits
