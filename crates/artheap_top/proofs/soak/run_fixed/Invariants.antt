use Rattle.std.proofs.Common.{◌≡◌, ℕ, ◌+◌, ◌-◌, ◌≤◌, ◌++◌, List, take}
use Rattle.script_make.specs.Boot.{boot_lines}
use Rattle.artheap_top.specs.Soaking.{HasSoaked, IsWithinLines}
use Rattle.artheap_top.proofs.soak.run_fixed.Given as goal

abbrev pub invariant-loop-end : goal.invariant-loop-end
invariant-loop-end l = record {
  few : l.k ≤ 11;
  lines : l.tally.lines ≡ l.fn.tally.lines + l.k;
  within : IsWithinLines l.tally;
  so_far : (budget : ℕ) (before : List (List ℕ)) → HasSoaked budget before l.fn.tally l.fn.machine
      → HasSoaked budget (before ++ take l.k boot_lines) l.tally l.machine;
}

abbrev pub decreases-loop-end : goal.decreases-loop-end
decreases-loop-end l = 11 - l.k
