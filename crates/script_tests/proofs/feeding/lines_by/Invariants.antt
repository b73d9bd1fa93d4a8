use Rattle.std.proofs.Common.{◌≡◌, false}
use Rattle.script_tests.proofs.feeding.lines_by.Given as goal

abbrev pub invariant-loop-piece : goal.invariant-loop-piece
invariant-loop-piece l = (l.feed.whole ≡ false) × (l.feed.ended ≡ false)
