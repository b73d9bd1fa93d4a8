use Rattle.std.proofs.Common.{◌≡◌, Some, sym, subst}
use Rattle.heap_graph.specs.Formed.{IsFormed}
use Rattle.heap_world.specs.World.{live, process_named}
use Rattle.plain_machine.proofs.Live.{sound_named}
use Rattle.plain_machine.proofs.machine.Machine.graph.Goals as goal

pub returns-clause-formed : goal.returns-clause-formed
returns-clause-formed c =
    let h : process_named (live c.self.inside.processes.items) c.args.process.now ≡ Some c.in_ok-q.q.now = cc (c.deref.ensures.value, c.in_ok-q.ensures) in
    subst IsFormed (sym c.graph_in.ensures) (sound_named c.self.inside.processes.items c.args.process.now c.in_ok-q.q.now c.self.invariant.sound h).formed
