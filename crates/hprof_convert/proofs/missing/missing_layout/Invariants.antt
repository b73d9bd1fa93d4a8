use Rattle.std.proofs.Common.{◌≡◌, drop}
use Rattle.hprof_convert.specs.Missing.{missing_from}
use Rattle.hprof_convert.proofs.missing.missing_layout.Given as goal

abbrev pub invariant-loop-one : goal.invariant-loop-one
invariant-loop-one l = missing_from l.width l.classes l.place (drop l.one-index l.records) ≡ missing_from l.width l.classes 31 l.records
