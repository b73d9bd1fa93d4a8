use Rattle.std.proofs.Common.{◌≡◌, ◌||◌, false, sym, ◌∙◌, ap, subst}
use Rattle.std.proofs.lemmas.Result.{err_from_is_err_and}
use Rattle.script_lang.specs.Feeding.{has_bytes}
use Rattle.script_lang.specs.Parts.{lines}
use Rattle.script_run.specs.Outside.{Output, output_of}
use Rattle.script_run.specs.Progress.{HasRunLines}
use Rattle.script_run.proofs.LastLine.{last_none, last_some}
use Rattle.script_run.proofs.Pieces.{by_truth}
use Rattle.script_run.proofs.script.run_last.Goals as goal

pub returns-clause-done : goal.returns-clause-done
returns-clause-done g c = λ s text old timed h.
    let run = c.args.run.now in
    let told = g.W.Sink.gained in
    let faults = g.W.Sink.fault_count in
    let mid : Output = output_of (told c.args.sink.now) (faults c.args.sink.now) (g.F.Shelf.shelved c.args.shelf.now) (g.F.Shelf.fault_count c.args.shelf.now) c.args.machine.now in
    let new : Output = output_of (told c.run_line.new.sink) (faults c.run_line.new.sink) (g.F.Shelf.shelved c.run_line.new.shelf) (g.F.Shelf.fault_count c.run_line.new.shelf) c.run_line.new.machine in
    let last = c.in_ok-last.last in
    let flag : c.end.new.self.whole ≡ has_bytes run.feed.kept = ap (λ f. f.whole) c.end.ensures.state in
    let number : c.end.new.self.number ≡ run.feed.number = ap (λ f. f.number) c.end.ensures.state in
    let kept : c.end.new.self.kept ≡ run.feed.kept = ap (λ f. f.kept) c.end.ensures.state in
    by_truth (has_bytes run.feed.kept)
    (λ e.
    subst (λ ls. HasRunLines s ls (run.refused || last) old new) (sym (last_some s text run.feed run.refused old mid h e))
    (c.in_ok-last.ensures.done s h.done h.part old run.refused (flag ∙ e) timed (number ∙ h.number) (kept ∙ h.kept) h.has_run))
    (λ e.
    let none = c.in_ok-last.ensures.none (flag ∙ e) in
    let quiet : last ≡ false = cc (none.0) in
    rw (none.2, none.3, none.4)
    (subst (λ b. HasRunLines s (lines text) (run.refused || b) old mid) (sym quiet) (last_none s text run.feed run.refused old mid h e)))

pub returns-in_err-last-clause-done : goal.returns-in_err-last-clause-done
returns-in_err-last-clause-done g c = λ s text old timed h.
    let run = c.args.run.now in
    let mid : Output = output_of (g.W.Sink.gained c.args.sink.now) (g.W.Sink.fault_count c.args.sink.now) (g.F.Shelf.shelved c.args.shelf.now) (g.F.Shelf.fault_count c.args.shelf.now) c.args.machine.now in
    let flag : c.end.new.self.whole ≡ has_bytes run.feed.kept = ap (λ f. f.whole) c.end.ensures.state in
    let number : c.end.new.self.number ≡ run.feed.number = ap (λ f. f.number) c.end.ensures.state in
    let kept : c.end.new.self.kept ≡ run.feed.kept = ap (λ f. f.kept) c.end.ensures.state in
    let p = err_from_is_err_and c.from_residual.result c.from_residual.ensures.1 in
    rw (p.1, p.2)
    (by_truth (has_bytes run.feed.kept)
    (λ e. record {
      before = h.done;
      line = h.part;
      got = last_some s text run.feed run.refused old mid h e;
      stopped = c.in_err-last.ensures.done s h.done h.part old run.refused (flag ∙ e) timed (number ∙ h.number) (kept ∙ h.kept) h.has_run;
    })
    (λ e. absurd (let bad = (c.in_err-last.ensures.none (flag ∙ e)).0 in cc (bad))))
