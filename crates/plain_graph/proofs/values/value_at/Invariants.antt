use Rattle.std.proofs.Common.{◌≡◌, drop}
use Rattle.heap_graph.specs.Values.{value_at}
use Rattle.plain_graph.proofs.values.value_at.Given as goal

-- nothing before here was stored in the slot
abbrev pub invariant-loop-s : goal.invariant-loop-s
invariant-loop-s l = value_at l.stored l.at ≡ value_at (drop l.s-index l.stored) l.at
