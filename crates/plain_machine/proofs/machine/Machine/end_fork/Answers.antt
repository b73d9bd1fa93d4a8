use Rattle.std.proofs.Common.{◌≡◌, ◌∙◌, Some, ap, slice_get}
use Rattle.heap_world.specs.World.{child_process}
use Rattle.plain_machine.proofs.Worlds.{forked, get_more, with_next}
use Rattle.plain_machine.proofs.machine.Machine.end_fork.Goals as goal

pub returns-clause-ok : goal.returns-clause-ok
returns-clause-ok c q there =
    let same : c.process-q.result.now ≡ q = cc (c.process-q.ensures.is, there) in
    let is : c.in_ok-new.new ≡ child_process (with_next q c.args.next c.args.labels.items) c.args.child =
    c.in_ok-new.ensures.child ∙ ap (λ r. child_process (with_next r c.args.next c.args.labels.items) c.args.child) same in
    let behind : slice_get c.add.new.self.processes c.args.i ≡ Some q =
    ap (λ w. slice_get w.processes c.args.i) c.in_ok-add.ensures.ok ∙ get_more c.args.self.now.processes c.args.i q c.in_ok-new.new there in
    forked c.args.self.now c.args.i q c.args.next c.args.labels.items c.args.child c.in_ok-new.new c.add.new.self c.settle.new.self there c.requires.fresh is
    c.in_ok-add.ensures.ok (c.settle.ensures q behind)
