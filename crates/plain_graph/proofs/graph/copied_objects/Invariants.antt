use Rattle.std.proofs.Common.{◌≡◌, take}
use Rattle.plain_graph.proofs.graph.copied_objects.Given as goal

abbrev pub invariant-loop-o : goal.invariant-loop-o
invariant-loop-o l = l.copies.items ≡ take l.o-index l.objects
