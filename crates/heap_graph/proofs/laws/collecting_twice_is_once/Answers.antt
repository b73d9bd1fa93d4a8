use Rattle.heap_graph.proofs.Twice.{twice_is_once}
use Rattle.heap_graph.proofs.laws.collecting_twice_is_once.Goals as goal

pub returns : goal.returns
returns c = twice_is_once
