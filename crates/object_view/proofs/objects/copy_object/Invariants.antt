use Rattle.std.proofs.Common.{◌<◌, ◌≤◌, ◌-◌}
use Rattle.cow_pages.specs.Memory.{IsSound}
use Rattle.object_view.specs.Changes.{IsCopying}
use Rattle.object_view.proofs.objects.copy_object.Given as goal

-- the words before this one were copied
abbrev pub invariant-loop-i : goal.invariant-loop-i
invariant-loop-i l = record {
  so_far : IsCopying l.fn.frames l.frames l.t.0 l.from.0 l.to.0 l.i;
  in_range : l.i ≤ l.words;
  sound : 0 < l.i → IsSound l.frames;
}

abbrev pub decreases-loop-i : goal.decreases-loop-i
decreases-loop-i l = l.words - l.i
