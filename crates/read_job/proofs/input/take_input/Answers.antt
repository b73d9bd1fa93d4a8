use Rattle.std.proofs.Common.{arith}
use Rattle.std.proofs.lemmas.Result.{err_from_is_err_and}
use Rattle.read_job.specs.Ends.{Streams, streams_of}
use Rattle.read_job.proofs.input.take_input.Goals as goal

pub returns-in_err-take_piece-clause-done : goal.returns-in_err-take_piece-clause-done
returns-in_err-take_piece-clause-done g c = λ held writes.
    let old : Streams = streams_of (g.S.Source.left c.args.source.now) (g.S.Source.fault_count c.args.source.now) held writes in
    let p = err_from_is_err_and c.from_residual.result c.from_residual.ensures.1 in
    rw (p.1, p.2)
    (c.in_err-take_piece.ensures.done old held writes (c.loop-text.invariant.so_far held writes))

pub loop-text-preserved : goal.loop-text-preserved
loop-text-preserved g c = record {
  piece = omega arith;
  fits = c.in_ok-take_piece.ensures.fits;
  counted = omega arith;
  so_far = λ held writes.
      let old : Streams = streams_of (g.S.Source.left c.args.source.now) (g.S.Source.fault_count c.args.source.now) held writes in
      (c.in_ok-take_piece.ensures.done old held writes (c.loop-text.invariant.so_far held writes)).0;
}

pub returns-clause-done : goal.returns-clause-done
returns-clause-done g c = λ held writes.
    let old : Streams = streams_of (g.S.Source.left c.args.source.now) (g.S.Source.fault_count c.args.source.now) held writes in
    let came = c.in_ok-take_piece.ensures.done old held writes (c.loop-text.invariant.so_far held writes) in
    record { gave = came.0.gave; nothing_left = came.1 c.if-branch.false; fits = c.in_ok-take_piece.ensures.fits }
