use Rattle.std.proofs.Common.{◌≡◌, take}
use Rattle.hprof_convert.specs.Layouts.{wide_classes}
use Rattle.hprof_convert.proofs.classes.known_classes.Given as goal

abbrev pub invariant-loop-one : goal.invariant-loop-one
invariant-loop-one l = l.known.items ≡ wide_classes (take l.one-index l.records)
