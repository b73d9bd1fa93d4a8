use Rattle.std.proofs.Common.{◌≡◌, ◌+◌, ◌≤◌, ◌++◌, drop}
use Rattle.model_numbers.specs.Numbers.{zygote_length}
use Rattle.heap_graph.specs.Fork.{promoted_from}
use Rattle.plain_graph.specs.Spots.{young_bytes}
use Rattle.plain_graph.proofs.fork.promoted_from.Given as goal

-- the objects so far and the rest, which has room
abbrev pub invariant-loop-o : goal.invariant-loop-o
invariant-loop-o l = record {
  so_far : l.promoted.items ++ promoted_from l.classes l.at (drop l.o-index l.objects) ≡ promoted_from l.classes l.start l.objects;
  room : l.at + young_bytes l.classes (drop l.o-index l.objects) ≤ zygote_length;
}
