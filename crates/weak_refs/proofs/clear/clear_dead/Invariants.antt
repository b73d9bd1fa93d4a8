use Rattle.std.proofs.Common.{◌≡◌, ◌<◌, length, take}
use Rattle.cow_pages.specs.Memory.{IsSound}
use Rattle.cow_pages.specs.View.{view_of}
use Rattle.object_view.specs.Changes.{reads_after_all}
use Rattle.weak_refs.specs.Weak.{addresses, dead_in, ClearsSlots}
use Rattle.weak_refs.proofs.clear.clear_dead.Given as goal

-- the slots before this one were cleared
abbrev pub invariant-loop-at : goal.invariant-loop-at
invariant-loop-at g l = record {
  cleared : ClearsSlots l.fn.frames l.frames l.t.0 (dead_in (g.K.KeepTest.keeps l.kept) (view_of l.fn.frames l.t.0) (take l.at-index (addresses l.slots)));
  count : l.count ≡ length (dead_in (g.K.KeepTest.keeps l.kept) (view_of l.fn.frames l.t.0) (take l.at-index (addresses l.slots)));
  reads : l.frames.reads ≡ reads_after_all l.fn.frames.reads (take l.at-index (addresses l.slots));
  sound : IsSound l.fn.frames → IsSound l.frames;
  sound_after_some : 0 < l.at-index → IsSound l.frames;
}
