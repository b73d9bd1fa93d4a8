use Rattle.heap_world.proofs.Bounds.{formed-packed}
use Rattle.heap_world.proofs.formed.formed_graphs_are_packed.Goals as goal

pub returns : goal.returns
returns c = formed-packed
