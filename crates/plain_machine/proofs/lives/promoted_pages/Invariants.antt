use Rattle.std.proofs.Common.{◌≡◌, take}
use Rattle.std.specs.List.{flat_map}
use Rattle.heap_world.specs.Pages.{pages_if_promoted}
use Rattle.plain_machine.proofs.lives.promoted_pages.Given as goal

abbrev pub invariant-loop-o : goal.invariant-loop-o
invariant-loop-o l = l.pages.items ≡ flat_map (λ o. pages_if_promoted l.graph.classes o o.place) (take l.o-index l.o-items)
