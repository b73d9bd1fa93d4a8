use Rattle.heap_graph.proofs.Paths.{is_a_path}
use Rattle.heap_graph.proofs.Reached.{reached-is}
use Rattle.heap_graph.proofs.laws.reaching_is_a_path.Goals as goal

pub returns-clause-nodes : goal.returns-clause-nodes
returns-clause-nodes c = is_a_path

pub returns-clause-objects : goal.returns-clause-objects
returns-clause-objects c = reached-is
