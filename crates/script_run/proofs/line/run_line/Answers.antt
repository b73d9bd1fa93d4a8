use Rattle.std.proofs.Common.{◌≡◌, sym, ◌∙◌, ap, subst}
use Rattle.std.proofs.lemmas.Result.{err_from_is_err_and}
use Rattle.script_lang.specs.FedLines.{fed_line}
use Rattle.script_lang.specs.Feeding.{line_at}
use Rattle.script_report.specs.Report.{step_line, world_of}
use Rattle.script_report.proofs.Wanting.{labels_of_lines}
use Rattle.script_report.specs.Wanting.{line_left}
use Rattle.world_laws.specs.Labels.{AreEarlier}
use Rattle.script_run.specs.Outside.{Output, output_of}
use Rattle.script_run.specs.Progress.{RanLine, StoppedLine}
use Rattle.script_run.proofs.Lines.{runs_behind, stops_behind}
use Rattle.script_run.proofs.line.run_line.Goals as goal

pub returns-clause-done : goal.returns-clause-done
returns-clause-done g c = λ s before line old refused whole timed number kept had.
    let told = g.W.Sink.gained in
    let faults = g.W.Sink.fault_count in
    let fed = fed_line c.in-Some.fed in
    let is : fed ≡ line_at c.args.feed.now = c.in-Some.ensures.line in
    let mid : Output = output_of (told c.args.sink.now) (faults c.args.sink.now) (g.F.Shelf.shelved c.args.shelf.now) (g.F.Shelf.fault_count c.args.shelf.now) c.args.machine.now in
    let new : Output = output_of (told c.answer_line.new.sink) (faults c.answer_line.new.sink) (g.F.Shelf.shelved c.answer_line.new.shelf) (g.F.Shelf.fault_count c.answer_line.new.shelf) c.answer_line.new.machine in
    runs_behind s before line fed.number refused old mid new had (ap (λ l. l.number) is ∙ number) c.answer_line.ensures.never_falls c.answer_line.ensures.shelf_never_falls c.in_ok-refused.refused
    (subst (λ t. RanLine t fed.number (step_line (world_of s.budget before) fed.number line) c.in_ok-refused.refused mid new) (sym timed)
    (c.in_ok-refused.ensures.done (world_of s.budget before) line had.ran.stands (subst (λ k. AreEarlier k (world_of s.budget before)) (sym (ap (λ l. l.number) is ∙ number)) (labels_of_lines s.budget before)) (ap (λ l. l.kept) is ∙ kept)))

pub returns-in_err-refused-clause-done : goal.returns-in_err-refused-clause-done
returns-in_err-refused-clause-done g c = λ s before line old refused whole timed number kept had.
    let told = g.W.Sink.gained in
    let faults = g.W.Sink.fault_count in
    let fed = fed_line c.in-Some.fed in
    let is : fed ≡ line_at c.args.feed.now = c.in-Some.ensures.line in
    let mid : Output = output_of (told c.args.sink.now) (faults c.args.sink.now) (g.F.Shelf.shelved c.args.shelf.now) (g.F.Shelf.fault_count c.args.shelf.now) c.args.machine.now in
    let new : Output = output_of (told c.answer_line.new.sink) (faults c.answer_line.new.sink) (g.F.Shelf.shelved c.answer_line.new.shelf) (g.F.Shelf.fault_count c.answer_line.new.shelf) c.answer_line.new.machine in
    let p = err_from_is_err_and c.from_residual.result c.from_residual.ensures.1 in
    rw (p.1, p.2)
    (stops_behind s before line fed.number refused old mid new had (ap (λ l. l.number) is ∙ number) c.answer_line.ensures.never_falls c.answer_line.ensures.shelf_never_falls c.in_err-refused.field-0.0
    (subst (λ t. StoppedLine c.in_err-refused.field-0.0 t fed.number (step_line (world_of s.budget before) fed.number line) (line_left (world_of s.budget before) fed.number line) mid new) (sym timed)
    (c.in_err-refused.ensures.done (world_of s.budget before) line had.ran.stands (subst (λ k. AreEarlier k (world_of s.budget before)) (sym (ap (λ l. l.number) is ∙ number)) (labels_of_lines s.budget before)) (ap (λ l. l.kept) is ∙ kept))))
