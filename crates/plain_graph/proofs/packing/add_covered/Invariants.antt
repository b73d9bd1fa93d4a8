use Rattle.std.proofs.Common.{◌≡◌, ◌-◌, ◌++◌}
use Rattle.heap_world.specs.Pages.{count_from}
use Rattle.plain_graph.proofs.packing.add_covered.Given as goal

-- the pages so far and the further ones are all of them
abbrev pub invariant-loop-page : goal.invariant-loop-page
invariant-loop-page l = l.pages.items ++ count_from l.page (l.end - l.page) ≡ l.initial.pages.items ++ count_from l.first (l.end - l.first)
