use Rattle.std.proofs.Common.{◌≡◌, true}
use Rattle.cow_pages.specs.View.{view_of}
use Rattle.raw_objects.specs.Raws.{Raws}
use Rattle.live_objects.specs.Marks.{CanFollow, HeldBefore, Takes}
use Rattle.live_objects.specs.Reach.{is_node}
use Rattle.live_objects.proofs.live.scan.Given as goal

-- what the references before this one hold is marked
abbrev pub invariant-loop-k : goal.invariant-loop-k
invariant-loop-k l = record {
  same : l.frames ≡ l.fn.frames;
  takes : (raws : Raws) → CanFollow l.classes (view_of l.fn.frames l.t.0) raws l.larges l.fn.marks.numbers → is_node l.larges raws l.at.0 ≡ true → Takes (HeldBefore l.classes l.larges raws l.at.0 l.k) l.fn.marks l.marks;
}
