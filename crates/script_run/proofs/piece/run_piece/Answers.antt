use Rattle.std.proofs.Common.{◌||◌, ◌++◌, ◌-◌, drop, length, take, arith}
use Rattle.std.proofs.lemmas.Result.{err_from_is_err_and}
use Rattle.script_run.specs.Outside.{Output, output_of}
use Rattle.script_run.proofs.Pieces.{rest_of, run_more, stop_more}
use Rattle.script_run.proofs.piece.run_piece.Goals as goal

pub loop-fed-preserved : goal.loop-fed-preserved
loop-fed-preserved g c =
    let at = c.loop-fed in
    let piece = c.args.piece.now in
    let new : Output = output_of (g.W.Sink.gained c.feed_line.new.sink) (g.W.Sink.fault_count c.feed_line.new.sink) (g.F.Shelf.shelved c.feed_line.new.shelf) (g.F.Shelf.fault_count c.feed_line.new.shelf) c.feed_line.new.machine in
    record {
      within = omega (arith, c.in_ok-count.ensures.fed, at.invariant.within, c.loop-fed-test.true);
      going = c.in_ok-count.ensures.going;
      few = omega (arith, c.in_ok-count.ensures.few, at.invariant.few);
      finished = c.in_ok-count.ensures.finished;
      never_falls = omega (arith, c.feed_line.ensures.never_falls, at.invariant.never_falls);
      shelf_never_falls = omega (arith, c.feed_line.ensures.shelf_never_falls, at.invariant.shelf_never_falls);
      so_far = λ s text old refused timed h.
          run_more s text piece (take (length piece - at.fed) (drop at.fed piece)) at.fed c.in_ok-count.count c.feed_line.new.feed refused at.refused c.in_ok-count.now old new
          (rest_of at.fed piece) (c.in_ok-count.ensures.done s (text ++ take at.fed piece) old (refused || at.refused) timed (at.invariant.so_far s text old refused timed h));
    }

pub returns-in_err-count-clause-done : goal.returns-in_err-count-clause-done
returns-in_err-count-clause-done g c = λ s text old refused timed h.
    let at = c.loop-fed in
    let piece = c.args.piece.now in
    let new : Output = output_of (g.W.Sink.gained c.feed_line.new.sink) (g.W.Sink.fault_count c.feed_line.new.sink) (g.F.Shelf.shelved c.feed_line.new.shelf) (g.F.Shelf.fault_count c.feed_line.new.shelf) c.feed_line.new.machine in
    let p = err_from_is_err_and c.from_residual.result c.from_residual.ensures.1 in
    rw (p.1, p.2)
    (stop_more c.in_err-count.field-0.0 s text piece (take (length piece - at.fed) (drop at.fed piece)) at.fed old new
    (rest_of at.fed piece)
    (c.in_err-count.ensures.done s (text ++ take at.fed piece) old (refused || at.refused) timed (at.invariant.so_far s text old refused timed h)))
