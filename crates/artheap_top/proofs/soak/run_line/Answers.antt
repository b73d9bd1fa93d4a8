use Rattle.std.proofs.Common.{◌+◌, refl}
use Rattle.std.proofs.lemmas.Result.{err_from_is_err_and}
use Rattle.script_report.specs.Report.{world_of}
use Rattle.artheap_top.proofs.Soaks.{left_here, next_is_later, soaks_behind}
use Rattle.artheap_top.proofs.soak.run_line.Goals as goal

pub returns-clause-done : goal.returns-clause-done
returns-clause-done c = λ budget before had.
    let t = c.args.tally.now in
    let line = c.args.line.now in
    let w = world_of budget before in
    let earlier = next_is_later budget before t c.args.machine.now had in
    rw c.count.ensures.counted
    (soaks_behind budget before line (t.lines + 1) c.in_ok-reply.reply t c.args.machine.now c.reply_to.new.machine had refl
    (c.in_ok-reply.ensures.reply w line had.stands earlier refl) (c.in_ok-reply.ensures.world w line had.stands earlier refl))

pub returns-in_err-reply-clause-left : goal.returns-in_err-reply-clause-left
returns-in_err-reply-clause-left c = λ budget before had.
    let t = c.args.tally.now in
    let line = c.args.line.now in
    let p = err_from_is_err_and c.from_residual.result c.from_residual.ensures.1 in
    rw p.1
    (left_here budget before line t c.args.machine.now c.reply_to.new.machine had
    (c.in_err-reply.ensures.left (world_of budget before) line had.stands (next_is_later budget before t c.args.machine.now had) refl))
