use Rattle.heap_world.specs.World.{live}
use Rattle.plain_machine.proofs.LiveObjects.{counted_where_named}
use Rattle.plain_machine.proofs.counts.live_processes_have_counts.Goals as goal

pub returns : goal.returns
returns c w name = counted_where_named (live w.processes) name
