use Rattle.std.proofs.Common.{◌≡◌, ◌<◌, ◌∙◌, Some, ap, length, slice_get, subst, sym}
use Rattle.heap_world.specs.World.{put_process}
use Rattle.plain_machine.proofs.Worlds.{settled_possible, settled_put, with_next}
use Rattle.plain_machine.proofs.machine.Machine.settle.Goals as goal

pub invariant_of-self : goal.invariant_of-self
invariant_of-self c =
    let seen : record { processes = c.self.inside.processes.items } ≡ c.args.self.now = c.self.view_is in
    let within : c.args.i < length c.self.inside.processes.items = subst (λ w. c.args.i < length w.processes) (sym seen) c.requires.within in
    settled_possible c.self.inside.processes.items c.args.i c.index_mut.result.now c.settle.new.self c.args.next c.args.labels.items c.self.invariant
    within c.index_mut.ensures.value c.settle.ensures c.requires.sound

pub returns : goal.returns
returns c q h =
    let seen : record { processes = c.self.inside.processes.items } ≡ c.args.self.now = c.self.view_is in
    let within : c.args.i < length c.self.inside.processes.items = subst (λ w. c.args.i < length w.processes) (sym seen) c.requires.within in
    let there : slice_get c.self.inside.processes.items c.args.i ≡ Some q = ap (λ w. slice_get w.processes c.args.i) seen ∙ h in
    let put_is = settled_put c.self.inside.processes.items c.args.i c.index_mut.result.now c.settle.new.self c.args.next c.args.labels.items c.self.invariant
    within c.index_mut.ensures.value c.settle.ensures c.requires.sound q there in
    ap (λ qs. record { processes = qs }) put_is ∙ ap (λ w. put_process w (with_next q c.args.next c.args.labels.items)) seen
