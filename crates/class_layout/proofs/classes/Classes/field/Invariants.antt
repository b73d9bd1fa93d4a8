use Rattle.std.proofs.Common.{◌≡◌, ◌<◌, length}
use Rattle.class_layout.specs.ClassList.{layout_of}
use Rattle.class_layout.specs.Layout.{field_named}
use Rattle.class_layout.proofs.classes.Classes.field.Given as goal

-- the class's field of the name is that of the class that the walk has come to
abbrev pub invariant-loop-j : goal.invariant-loop-j
invariant-loop-j l = (l.at < length l.self) × (field_named (layout_of l.self l.class) l.name ≡ field_named (layout_of l.self l.at) l.name)

abbrev pub decreases-loop-j : goal.decreases-loop-j
decreases-loop-j l = l.at
