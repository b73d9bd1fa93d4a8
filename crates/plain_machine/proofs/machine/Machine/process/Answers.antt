use Rattle.std.proofs.Common.{◌≡◌, ◌<◌, length, subst, sym}
use Rattle.plain_machine.proofs.Live.{sound_of}
use Rattle.plain_machine.proofs.machine.Machine.process.Goals as goal

pub returns-clause-sound : goal.returns-clause-sound
returns-clause-sound c =
    let seen : record { processes = c.self.inside.processes.items } ≡ c.args.self.now = c.self.view_is in
    let within : c.args.i < length c.self.inside.processes.items = subst (λ w. c.args.i < length w.processes) (sym seen) c.requires.within in
    sound_of c.self.inside.processes.items c.args.i c.index.result.now c.self.invariant.sound within c.index.ensures
