-- A collected graph is formed, and its classes are those of the graph.
use Rattle.heap_world.proofs.FormedKept.{collect_formed}

pub ruleset collected = (collect_formed)
