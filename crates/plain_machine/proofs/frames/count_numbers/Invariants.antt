use Rattle.std.proofs.Common.{◌≡◌, ◌≤◌, ◌+◌, length}
use Rattle.heap_world.specs.Pages.{distinct}
use Rattle.plain_machine.proofs.frames.count_numbers.Given as goal

abbrev pub invariant-loop-number : goal.invariant-loop-number
invariant-loop-number l = (l.count + length (distinct l.rest) ≡ length (distinct l.numbers)) × (l.count + length l.rest ≤ length l.numbers)

abbrev pub decreases-loop-number : goal.decreases-loop-number
decreases-loop-number l = length l.rest
