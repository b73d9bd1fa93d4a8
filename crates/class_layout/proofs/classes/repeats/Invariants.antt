use Rattle.std.proofs.Common.{◌≡◌, length}
use Rattle.class_layout.specs.ClassList.{repeats}
use Rattle.class_layout.proofs.classes.repeats.Given as goal

abbrev pub invariant-loop-first : goal.invariant-loop-first
invariant-loop-first l = repeats l.fields ≡ repeats l.rest

abbrev pub decreases-loop-first : goal.decreases-loop-first
decreases-loop-first l = length l.rest
