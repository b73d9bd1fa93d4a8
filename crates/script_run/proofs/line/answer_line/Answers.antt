use Rattle.std.proofs.Common.{inl, [], List, ◌∙◌, ap, refl, subst, sym}
use Rattle.std.proofs.lemmas.Result.{err_from_is_err_and}
use Rattle.heap_world.specs.Run.{Answer}
use Rattle.script_lang.specs.FedLines.{fed_line}
use Rattle.script_report.specs.Report.{LineDone, step_line, with_answer}
use Rattle.script_report.specs.Wanting.{line_left}
use Rattle.script_run.specs.Outside.{Output, output_of}
use Rattle.script_run.specs.Progress.{StoppedLine}
use Rattle.script_run.proofs.Replies.{put_behind, stops_dumping}
use Rattle.script_run.proofs.line.answer_line.Goals as goal

pub returns-in-Ok-clause-done : goal.returns-in-Ok-clause-done
returns-in-Ok-clause-done g c = λ w line stands earlier kept.
    let told = g.W.Sink.gained in
    let faults = g.W.Sink.fault_count in
    let n = (fed_line c.args.fed.now).number in
    let d : LineDone = step_line w n line in
    let answered = c.in_ok-answered.answered in
    let old : Output = output_of (told c.args.sink.now) (faults c.args.sink.now) (g.F.Shelf.shelved c.args.shelf.now) (g.F.Shelf.fault_count c.args.shelf.now) c.args.machine.now in
    let new : Output = output_of (told c.put_answer.new.sink) (faults c.put_answer.new.sink) (g.F.Shelf.shelved c.add_asked.new.shelf) (g.F.Shelf.fault_count c.add_asked.new.shelf) c.add_asked.new.machine in
    let after = c.in_ok-answered.ensures.world w line stands earlier kept in
    let given : List Answer = with_answer c.number_of.result answered.reply [] in
    put_behind c.args.time n d (line_left w n line) old new (c.add_asked.ensures.stands d.world after) given c.put_answer.result
    (ap (λ k. with_answer k answered.reply []) c.number_of.ensures ∙ ap (λ r. with_answer n r []) (c.in_ok-answered.ensures.reply w line stands earlier kept))
    (c.in-Ok.ensures.done d.world d.dumps after (c.in_ok-answered.ensures.dumped w line stands earlier kept))
    c.put_answer.ensures.put

pub returns-in-Err-clause-done : goal.returns-in-Err-clause-done
returns-in-Err-clause-done g c = λ w line stands earlier kept.
    let told = g.W.Sink.gained c.args.sink.now in
    let faults = g.W.Sink.fault_count c.args.sink.now in
    let n = (fed_line c.args.fed.now).number in
    let d : LineDone = step_line w n line in
    let old : Output = output_of told faults (g.F.Shelf.shelved c.args.shelf.now) (g.F.Shelf.fault_count c.args.shelf.now) c.args.machine.now in
    let new : Output = output_of told faults (g.F.Shelf.shelved c.add_asked.new.shelf) (g.F.Shelf.fault_count c.add_asked.new.shelf) c.add_asked.new.machine in
    let after = c.in_ok-answered.ensures.world w line stands earlier kept in
    subst (λ s. StoppedLine s c.args.time n d (line_left w n line) old new) (sym c.dump_stop.ensures)
    (stops_dumping c.args.time n d (line_left w n line) old new (c.add_asked.ensures.stands d.world after) c.in-Err.e
    (c.in-Err.ensures.done d.world d.dumps after (c.in_ok-answered.ensures.dumped w line stands earlier kept)) c.in-Err.ensures.cause refl)

pub returns-in_err-answered-clause-done : goal.returns-in_err-answered-clause-done
returns-in_err-answered-clause-done g c = λ w line stands earlier kept.
    let p = err_from_is_err_and c.from_residual.result c.from_residual.ensures.1 in
    rw (p.1, p.2)
    (inl (record { report = refl; dumps = refl; stands = c.in_err-answered.ensures.left w line stands earlier kept }))
