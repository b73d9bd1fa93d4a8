use Rattle.std.proofs.Common.{◌≡◌, ◌*◌, ◌^◌, ◌≤◌, map, sum, take}
use Rattle.heap_world.specs.World.{live}
use Rattle.heap_world.specs.Counts.{objects_in}
use Rattle.plain_machine.proofs.counts.live_objects.Given as goal

abbrev pub invariant-loop-q : goal.invariant-loop-q
invariant-loop-q l = (l.objects ≡ sum (map objects_in (live (take l.q-index l.processes)))) × (l.objects ≤ 2 ^ 64 * l.q-index)
