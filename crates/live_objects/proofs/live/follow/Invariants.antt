use Rattle.std.proofs.Common.{◌≡◌, ◌+◌, ℕ, List, length}
use Rattle.cow_pages.specs.View.{view_of}
use Rattle.raw_objects.specs.Raws.{Raws}
use Rattle.live_objects.specs.Marks.{CanFollow, Marking, unset}
use Rattle.live_objects.proofs.live.follow.Given as goal

-- marking goes on
abbrev pub invariant-loop-at : goal.invariant-loop-at
invariant-loop-at l = record {
  same : l.frames ≡ l.fn.frames;
  numbers : l.marks.numbers ≡ l.fn.marks.numbers;
  marking : (raws : Raws) (starts : List ℕ) → CanFollow l.classes (view_of l.fn.frames l.t.0) raws l.larges l.fn.marks.numbers → Marking l.classes l.larges raws starts l.fn.marks → Marking l.classes l.larges raws starts l.marks;
}

abbrev pub decreases-loop-at : goal.decreases-loop-at
decreases-loop-at l = length l.marks.waiting + unset l.marks
