use Rattle.std.proofs.lemmas.Result.{err_from_is_err_and}
use Rattle.script_run.proofs.input.run_input.Goals as goal

pub returns-clause-done : goal.returns-clause-done
returns-clause-done g c = λ s old timed h.
    let came = c.in_ok-take_piece.ensures.done s old timed (c.loop.invariant.so_far s old timed h) in
    (came.0, came.1 c.if-branch.false)

pub returns-in_err-take_piece-clause-done : goal.returns-in_err-take_piece-clause-done
returns-in_err-take_piece-clause-done g c = λ s old timed h.
    let p = err_from_is_err_and c.from_residual.result c.from_residual.ensures.1 in
    rw (p.1, p.2)
    (c.in_err-take_piece.ensures.done s old timed (c.loop.invariant.so_far s old timed h))
