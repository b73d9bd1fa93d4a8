use Rattle.std.proofs.Common.{◌≡◌}
use Rattle.cow_pages.specs.View.{view_of}
use Rattle.raw_objects.specs.Raws.{Raws}
use Rattle.live_objects.specs.Live.{addresses}
use Rattle.object_collection.specs.Weaks.{Adds, AreReadable, IsWeakAmong}
use Rattle.object_collection.proofs.weak.push_weak.Given as goal

-- the weak references of the objects before this one are pushed
abbrev pub invariant-loop-at : goal.invariant-loop-at
invariant-loop-at l = record {
  same : l.frames ≡ l.fn.frames;
  weak : (raws : Raws) → AreReadable l.classes (view_of l.fn.frames l.t.0) raws l.ats → Adds (IsWeakAmong l.classes raws l.ats l.at-index) (addresses l.fn.weak.items) (addresses l.weak.items);
}
