use Rattle.std.proofs.Common.{◌+◌, ◌++◌, take, arith}
use Rattle.std.proofs.lemmas.Option.{slice_get_within}
use Rattle.std.proofs.lemmas.Result.{err_from_is_err_and}
use Rattle.script_make.specs.Boot.{boot_lines}
use Rattle.artheap_top.proofs.Soaks.{left_found, soaks_more, take-found}
use Rattle.artheap_top.proofs.soak.run_fixed.Goals as goal

pub loop-end-preserved : goal.loop-end-preserved
loop-end-preserved c =
    let at = c.loop-end in
    let line = take c.in-Some.end c.boot_line.new.buf in
    record {
      few = omega (arith, slice_get_within boot_lines at.k line c.in-Some.ensures.line);
      lines = omega (arith, c.in_ok-run_line.ensures.lines, at.invariant.lines);
      within = c.in_ok-run_line.ensures.within;
      so_far = λ budget before had.
          soaks_more budget before (take at.k boot_lines) line (take (at.k + 1) boot_lines) c.run_line.new.tally c.run_line.new.machine
          (take-found boot_lines at.k line c.in-Some.ensures.line)
          (c.in_ok-run_line.ensures.done budget (before ++ take at.k boot_lines) (at.invariant.so_far budget before had));
    }

pub returns-in_err-run_line-clause-left : goal.returns-in_err-run_line-clause-left
returns-in_err-run_line-clause-left c = λ budget before had.
    let at = c.loop-end in
    let line = take c.in-Some.end c.boot_line.new.buf in
    let p = err_from_is_err_and c.from_residual.result c.from_residual.ensures.1 in
    rw p.1
    (left_found budget before c.run_line.new.machine boot_lines at.k line c.in-Some.ensures.line
    (c.in_err-run_line.ensures.left budget (before ++ take at.k boot_lines) (at.invariant.so_far budget before had)))
