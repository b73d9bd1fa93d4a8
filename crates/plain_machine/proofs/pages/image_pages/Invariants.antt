use Rattle.std.proofs.Common.{◌≡◌, ◌-◌, map}
use Rattle.heap_world.specs.Pages.{count_from}
use Rattle.heap_world.specs.declared.names.PageName.TheVariants as page
use Rattle.plain_machine.proofs.pages.image_pages.Given as goal

abbrev pub invariant-loop-k : goal.invariant-loop-k
invariant-loop-k l = l.pages.items ≡ map page.Image (count_from l.start (l.k - l.start))
