use Rattle.std.proofs.Common.{◌<◌, ◌≤◌}
use Rattle.script_tests.proofs.making.five_thousand_lines.Given as goal

abbrev pub invariant-loop : goal.invariant-loop
invariant-loop g l = (l.state.x < 2147483648) × (l.state.forks ≤ 6)
