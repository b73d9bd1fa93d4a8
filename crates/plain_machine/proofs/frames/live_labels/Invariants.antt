use Rattle.std.proofs.Common.{◌≡◌, take}
use Rattle.std.specs.List.{flat_map}
use Rattle.heap_world.specs.World.{live, standing_labels}
use Rattle.plain_machine.proofs.frames.live_labels.Given as goal

abbrev pub invariant-loop-q : goal.invariant-loop-q
invariant-loop-q l = l.labels.items ≡ flat_map standing_labels (live (take l.q-index l.processes))
