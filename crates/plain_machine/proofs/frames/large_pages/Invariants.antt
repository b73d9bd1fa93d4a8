use Rattle.std.proofs.Common.{◌≡◌, ◌≤◌, ◌*◌, ◌^◌, map, sum, take}
use Rattle.heap_world.specs.Pages.{large_page_count}
use Rattle.plain_machine.proofs.frames.large_pages.Given as goal

abbrev pub invariant-loop-o : goal.invariant-loop-o
invariant-loop-o l = (l.pages ≡ sum (map (λ o. large_page_count l.graph.classes o o.place) (take l.o-index l.o-items))) × (l.pages ≤ 2 ^ 28 * l.o-index)
