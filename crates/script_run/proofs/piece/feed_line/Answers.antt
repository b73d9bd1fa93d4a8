use Rattle.std.proofs.Common.{◌≡◌, ℕ, ◌+◌, ◌<◌, ◌||◌, ◌++◌, false, List, length, sym, ◌∙◌, ap, subst, arith}
use Rattle.std.proofs.lemmas.Result.{err_from_is_err_and}
use Rattle.script_lang.specs.Feeding.{first_part, has_line_feed, taken}
use Rattle.script_run.specs.Outside.{Output, output_of}
use Rattle.script_run.specs.Progress.{HasRun}
use Rattle.script_run.proofs.Pieces.{by_truth, fed_open, fed_stopped, fed_whole}
use Rattle.script_run.proofs.piece.feed_line.Goals as goal

pub returns-clause-done : goal.returns-clause-done
returns-clause-done g c = λ s text old refused timed h.
    let piece = c.args.piece.now in
    let fed = c.feed-count.new.self in
    let after = c.run_line.new.feed in
    let told = g.W.Sink.gained in
    let faults = g.W.Sink.fault_count in
    let mid : Output = output_of (told c.args.sink.now) (faults c.args.sink.now) (g.F.Shelf.shelved c.args.shelf.now) (g.F.Shelf.fault_count c.args.shelf.now) c.args.machine.now in
    let new : Output = output_of (told c.run_line.new.sink) (faults c.run_line.new.sink) (g.F.Shelf.shelved c.run_line.new.shelf) (g.F.Shelf.fault_count c.run_line.new.shelf) c.run_line.new.machine in
    let flag : fed.whole ≡ has_line_feed piece = ap (λ f. f.whole) c.feed-count.ensures.state in
    let same : fed.number ≡ c.args.feed.now.number = ap (λ f. f.number) c.feed-count.ensures.state in
    subst (λ (xs : List ℕ). HasRun s (text ++ xs) after (refused || c.in_ok-refused.refused) old new) (sym c.feed-count.ensures.bytes)
    (by_truth (has_line_feed piece)
    (λ e.
    let next = c.in_ok-refused.ensures.next (flag ∙ e) in
    fed_whole s text piece c.args.feed.now after refused (refused || c.in_ok-refused.refused) old mid new
    h e (ap (λ f. f.number) next ∙ ap (λ (k : ℕ). k + 1) same) (ap (λ f. f.kept) next)
    (c.in_ok-refused.ensures.done s h.done (h.part ++ first_part piece) old refused (flag ∙ e) timed (same ∙ h.number) (c.feed-count.ensures.kept h.part h.kept) h.has_run))
    (λ e.
    let none = c.in_ok-refused.ensures.none (flag ∙ e) in
    let quiet : c.in_ok-refused.refused ≡ false = cc (none.0) in
    rw (none.1, none.2, none.3, none.4)
    (subst (λ b. HasRun s (text ++ taken piece) fed (refused || b) old mid) (sym quiet)
    (fed_open s text piece c.args.feed.now fed refused old mid h e same c.feed-count.ensures.kept))))

pub returns-in_err-refused-clause-done : goal.returns-in_err-refused-clause-done
returns-in_err-refused-clause-done g c = λ s text old refused timed h.
    let piece = c.args.piece.now in
    let told = g.W.Sink.gained in
    let faults = g.W.Sink.fault_count in
    let mid : Output = output_of (told c.args.sink.now) (faults c.args.sink.now) (g.F.Shelf.shelved c.args.shelf.now) (g.F.Shelf.fault_count c.args.shelf.now) c.args.machine.now in
    let new : Output = output_of (told c.run_line.new.sink) (faults c.run_line.new.sink) (g.F.Shelf.shelved c.run_line.new.shelf) (g.F.Shelf.fault_count c.run_line.new.shelf) c.run_line.new.machine in
    let flag : c.feed-count.new.self.whole ≡ has_line_feed piece = ap (λ f. f.whole) c.feed-count.ensures.state in
    let same : c.feed-count.new.self.number ≡ c.args.feed.now.number = ap (λ f. f.number) c.feed-count.ensures.state in
    let some : 0 < length (taken piece) = omega (arith, c.feed-count.ensures.some c.requires.some, c.feed-count.ensures.count) in
    let p = err_from_is_err_and c.from_residual.result c.from_residual.ensures.1 in
    rw (p.1, p.2)
    (by_truth (has_line_feed piece)
    (λ e.
    fed_stopped c.in_err-refused.field-0.0 s text piece c.args.feed.now refused old mid new h e some
    (c.in_err-refused.ensures.done s h.done (h.part ++ first_part piece) old refused (flag ∙ e) timed (same ∙ h.number) (c.feed-count.ensures.kept h.part h.kept) h.has_run))
    (λ e. absurd (let bad = (c.in_err-refused.ensures.none (flag ∙ e)).0 in cc (bad))))
