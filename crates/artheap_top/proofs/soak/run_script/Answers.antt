use Rattle.std.proofs.Common.{[]}
use Rattle.std.proofs.lemmas.Result.{err_from_is_err_and}
use Rattle.script_make.specs.Boot.{boot_lines}
use Rattle.script_make.specs.Script.{first_state, made_lines}
use Rattle.artheap_top.proofs.Soaks.{left_behind_lines, left_more, soaks_begin}
use Rattle.artheap_top.proofs.soak.run_script.Goals as goal

pub returns-clause-done : goal.returns-clause-done
returns-clause-done c = λ budget stands.
    c.in_ok-run_made.ensures.done budget boot_lines
    (c.in_ok-run_fixed.ensures.done budget [] (soaks_begin budget c.new-tally.result c.args.machine.now c.new-tally.ensures stands))

pub returns-in_err-run_fixed-clause-left : goal.returns-in_err-run_fixed-clause-left
returns-in_err-run_fixed-clause-left c = λ budget stands.
    let p = err_from_is_err_and c.from_residual.result c.from_residual.ensures.1 in
    rw p.1
    (left_more budget [] c.run_fixed.new.machine boot_lines (made_lines c.args.count (first_state c.args.start))
    (c.in_err-run_fixed.ensures.left budget [] (soaks_begin budget c.new-tally.result c.args.machine.now c.new-tally.ensures stands)))

pub returns-in_err-run_made-clause-left : goal.returns-in_err-run_made-clause-left
returns-in_err-run_made-clause-left c = λ budget stands.
    let p = err_from_is_err_and c.from_residual-in_err-run_made.result c.from_residual-in_err-run_made.ensures.1 in
    rw p.1
    (left_behind_lines budget [] c.run_made.new.machine boot_lines (made_lines c.args.count (first_state c.args.start))
    (c.in_err-run_made.ensures.left budget boot_lines
    (c.in_ok-run_fixed.ensures.done budget [] (soaks_begin budget c.new-tally.result c.args.machine.now c.new-tally.ensures stands))))
