use Rattle.std.proofs.Common.{◌≡◌, ℕ, ◌+◌, ◌*◌, ◌<◌, ◌≤◌}
use Rattle.cow_pages.specs.Memory.{Memory, IsSound}
use Rattle.cow_pages.specs.View.{byte_at, view_of}
use Rattle.object_view.specs.Changes.{ChangesWithin, WritesSpan}
use Rattle.object_view.proofs.objects.write_zeros.Given as goal

-- the words before this one are zeros, and nothing else changed
abbrev pub invariant-loop-i : goal.invariant-loop-i
invariant-loop-i l = record {
  bytes : ChangesWithin (view_of l.fn.frames l.t.0) (view_of l.frames l.t.0) (l.at.0 + 8 * l.fn.first) (l.at.0 + 8 * l.i);
  zeros : (b : ℕ) → l.at.0 + 8 * l.fn.first ≤ b → b < l.at.0 + 8 * l.i → byte_at l.frames l.t.0 b ≡ 0;
  span : (m : Memory) → WritesSpan m l.fn.frames l.t.0 l.at.0 (l.at.0 + 8 * l.fn.first) → WritesSpan m l.frames l.t.0 l.at.0 (l.at.0 + 8 * l.i);
  reads : l.frames.reads ≡ l.fn.frames.reads;
  sound : IsSound l.fn.frames → IsSound l.frames;
}
