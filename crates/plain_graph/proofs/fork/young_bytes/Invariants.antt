use Rattle.std.proofs.Common.{◌≡◌, ◌+◌, ◌*◌, ◌≤◌, drop}
use Rattle.model_numbers.specs.Numbers.{most_array_bytes}
use Rattle.plain_graph.specs.Spots.{young_bytes}
use Rattle.plain_graph.proofs.fork.young_bytes.Given as goal

-- the bytes so far, at most 1,048,576 for each object, and those of the rest
abbrev pub invariant-loop-o : goal.invariant-loop-o
invariant-loop-o l = record {
  so_far : l.bytes + young_bytes l.classes (drop l.o-index l.objects) ≡ young_bytes l.classes l.objects;
  small : l.bytes ≤ most_array_bytes * l.o-index;
}
