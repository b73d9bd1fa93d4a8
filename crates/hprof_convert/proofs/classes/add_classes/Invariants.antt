use Rattle.std.proofs.Common.{◌≡◌, ◌++◌, take}
use Rattle.std.specs.List.{filter_map}
use Rattle.hprof_convert.specs.Layouts.{wide_class_of}
use Rattle.hprof_convert.proofs.classes.add_classes.Given as goal

abbrev pub invariant-loop-part : goal.invariant-loop-part
invariant-loop-part l = l.known.items ≡ l.fn.known.items ++ filter_map wide_class_of (take l.part-index l.parts)
