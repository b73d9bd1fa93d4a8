use Rattle.std.proofs.Common.{take}
use Rattle.live_objects.specs.Live.{addresses}
use Rattle.live_objects.specs.Marks.{HeldIn, Takes}
use Rattle.live_objects.proofs.marks.Marks.mark_roots.Given as goal

-- what the roots before this one hold is marked
abbrev pub invariant-loop-root : goal.invariant-loop-root
invariant-loop-root l = Takes (HeldIn l.larges (addresses (take l.root-index l.roots))) l.fn.self l.self
