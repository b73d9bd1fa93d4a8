use Rattle.std.proofs.Common.{◌≡◌, ◌≤◌, ◌+◌, length}
use Rattle.heap_world.specs.World.{distinct_labels}
use Rattle.plain_machine.proofs.frames.count_labels.Given as goal

abbrev pub invariant-loop-label : goal.invariant-loop-label
invariant-loop-label l = (l.count + length (distinct_labels l.rest) ≡ length (distinct_labels l.labels)) × (l.count + length l.rest ≤ length l.labels)

abbrev pub decreases-loop-label : goal.decreases-loop-label
decreases-loop-label l = length l.rest
