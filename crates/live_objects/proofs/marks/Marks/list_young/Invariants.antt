use Rattle.std.proofs.Common.{◌-◌}
use Rattle.live_objects.proofs.ListLemmas.{Listing}
use Rattle.live_objects.proofs.marks.Marks.list_young.Given as goal

-- the marked places up to here are listed
abbrev pub invariant-loop-place : goal.invariant-loop-place
invariant-loop-place l = Listing l.self-inside.order l.self-inside.young l.young.items l.from.0

abbrev pub decreases-loop-place : goal.decreases-loop-place
decreases-loop-place l = l.self-inside.young.span - l.from.0
