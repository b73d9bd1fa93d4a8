use Rattle.std.proofs.Common.{◌≡◌, map, sum, take}
use Rattle.heap_world.specs.Pages.{own_page_count}
use Rattle.heap_world.specs.World.{live}
use Rattle.plain_machine.proofs.frames.own_frames.Given as goal

abbrev pub invariant-loop-q : goal.invariant-loop-q
invariant-loop-q l = l.frames ≡ sum (map (λ q. own_page_count q.part.graph) (live (take l.q-index l.processes)))
