use Rattle.std.proofs.Common.{◌≡◌, take}
use Rattle.heap_world.specs.Acts.{stored_in}
use Rattle.plain_graph.proofs.graph.Graph.with_slot.Given as goal

abbrev pub invariant-loop-o : goal.invariant-loop-o
invariant-loop-o l = l.objects.items ≡ stored_in (take l.o-index l.self.objects) l.number l.new
