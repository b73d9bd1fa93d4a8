use Rattle.std.proofs.Common.{◌≡◌, ◌++◌, [], length}
use Rattle.heap_world.specs.World.{labelled}
use Rattle.plain_machine.proofs.process.push_labels.Given as goal

abbrev pub invariant-loop-page : goal.invariant-loop-page
invariant-loop-page l = l.labels.items ++ labelled l.line l.rest [] ≡ l.fn.labels.items ++ labelled l.line l.pages []

abbrev pub decreases-loop-page : goal.decreases-loop-page
decreases-loop-page l = length l.rest
