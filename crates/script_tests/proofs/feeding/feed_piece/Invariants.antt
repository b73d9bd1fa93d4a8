use Rattle.std.proofs.Common.{◌≡◌, false, length}
use Rattle.script_tests.proofs.feeding.feed_piece.Given as goal

abbrev pub invariant-loop-rest : goal.invariant-loop-rest
invariant-loop-rest l = (l.feed.whole ≡ false) × (l.feed.ended ≡ false)

abbrev pub decreases-loop-rest : goal.decreases-loop-rest
decreases-loop-rest l = length l.rest
