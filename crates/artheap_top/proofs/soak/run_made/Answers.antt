use Rattle.std.proofs.Common.{◌≡◌, ◌+◌, ◌++◌, ◌∷◌, [], take, sym, ◌∙◌, ap, arith}
use Rattle.std.proofs.lemmas.Result.{err_from_is_err_and}
use Rattle.script_make.specs.Lines.{made_line, next_state}
use Rattle.script_make.specs.Script.{first_state, made_lines, state_after}
use Rattle.artheap_top.proofs.Soaks.{left_made, made_lines-more, soaks_more, state_after-more}
use Rattle.artheap_top.proofs.soak.run_made.Goals as goal

pub loop-preserved : goal.loop-preserved
loop-preserved c =
    let at = c.loop in
    let n = at.counter in
    let first = first_state c.args.start in
    let line = take c.line_of-end.result.0 c.line_of-end.new.buf in
    record {
      small = c.line_of-end.ensures.next_x;
      forks = c.line_of-end.ensures.next_forks;
      state = c.line_of-end.ensures.next ∙ (ap next_state at.invariant.state ∙ sym (state_after-more n first));
      lines = omega (arith, c.in_ok-run_line.ensures.lines, at.invariant.lines);
      within = c.in_ok-run_line.ensures.within;
      so_far = λ budget before had.
          soaks_more budget before (made_lines n first) line (made_lines (n + 1) first) c.run_line.new.tally c.run_line.new.machine
          (made_lines-more n first ∙ ap (λ l. made_lines n first ++ l ∷ []) (ap made_line (sym at.invariant.state) ∙ sym c.line_of-end.ensures.line))
          (c.in_ok-run_line.ensures.done budget (before ++ made_lines n first) (at.invariant.so_far budget before had));
    }

pub returns-in_err-run_line-clause-left : goal.returns-in_err-run_line-clause-left
returns-in_err-run_line-clause-left c = λ budget before had.
    let at = c.loop in
    let n = at.counter in
    let first = first_state c.args.start in
    let line = take c.line_of-end.result.0 c.line_of-end.new.buf in
    let is : made_line (state_after n first) ≡ line = ap made_line (sym at.invariant.state) ∙ sym c.line_of-end.ensures.line in
    let p = err_from_is_err_and c.from_residual.result c.from_residual.ensures.1 in
    rw p.1
    (left_made budget before c.run_line.new.machine n c.args.count first line c.loop-test.true is
    (c.in_err-run_line.ensures.left budget (before ++ made_lines n first) (at.invariant.so_far budget before had)))
