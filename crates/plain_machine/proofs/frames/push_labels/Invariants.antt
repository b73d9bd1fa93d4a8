use Rattle.std.proofs.Common.{◌≡◌, ◌++◌, length}
use Rattle.std.specs.List.{flat_map}
use Rattle.heap_world.specs.World.{label_of, some_labels}
use Rattle.plain_machine.proofs.frames.push_labels.Given as goal

abbrev pub invariant-loop-page : goal.invariant-loop-page
invariant-loop-page l =
    l.labels.items ++ flat_map (λ page. some_labels (label_of l.known page)) l.rest
    ≡ l.fn.labels.items ++ flat_map (λ page. some_labels (label_of l.known page)) l.pages

abbrev pub decreases-loop-page : goal.decreases-loop-page
decreases-loop-page l = length l.rest
