use Rattle.std.proofs.Common.{◌≡◌, ◌+◌, take}
use Rattle.std.specs.Prelude.{sum_by}
use Rattle.hprof_wide.specs.Parts.{wide_value_bytes}
use Rattle.hprof_convert.proofs.classes.behind.Given as goal

abbrev pub invariant-loop-code : goal.invariant-loop-code
invariant-loop-code l = l.left + sum_by (wide_value_bytes l.width) (take l.code-index l.codes) ≡ l.size
