use Rattle.std.proofs.Common.{◌≡◌, ℕ, ◌+◌, ◌≤◌, ◌<◌, ◌++◌, List}
use Rattle.script_make.specs.Script.{first_state, made_lines, state_after}
use Rattle.artheap_top.specs.Soaking.{HasSoaked, IsWithinLines}
use Rattle.artheap_top.proofs.soak.run_made.Given as goal

abbrev pub invariant-loop : goal.invariant-loop
invariant-loop l = record {
  small : l.state.x < 2147483648;
  forks : l.state.forks ≤ 6;
  state : l.state ≡ state_after l.counter (first_state l.fn.start);
  lines : l.tally.lines ≡ l.fn.tally.lines + l.counter;
  within : IsWithinLines l.tally;
  so_far : (budget : ℕ) (before : List (List ℕ)) → HasSoaked budget before l.fn.tally l.fn.machine
      → HasSoaked budget (before ++ made_lines l.counter (first_state l.fn.start)) l.tally l.machine;
}
