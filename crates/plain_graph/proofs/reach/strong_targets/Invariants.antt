use Rattle.std.proofs.Common.{◌≡◌, take}
use Rattle.heap_graph.specs.Values.{strong_slots, targets}
use Rattle.plain_graph.proofs.reach.strong_targets.Given as goal

abbrev pub invariant-loop-s : goal.invariant-loop-s
invariant-loop-s l = l.held.items ≡ targets (strong_slots (take l.s-index l.slots))
