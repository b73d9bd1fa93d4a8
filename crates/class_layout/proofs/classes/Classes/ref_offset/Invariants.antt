use Rattle.std.proofs.Common.{◌≡◌, ◌<◌, length, slice_get}
use Rattle.class_layout.specs.Layout.{references}
use Rattle.class_layout.specs.ClassList.{layout_of}
use Rattle.class_layout.proofs.classes.Classes.ref_offset.Given as goal

-- the class's reference is that of the class that the walk has come to
abbrev pub invariant-loop-own : goal.invariant-loop-own
invariant-loop-own l = (l.at < length l.self) × (slice_get (references (layout_of l.self l.class)) l.k ≡ slice_get (references (layout_of l.self l.at)) l.k)

abbrev pub decreases-loop-own : goal.decreases-loop-own
decreases-loop-own l = l.at
