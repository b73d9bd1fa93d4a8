use Rattle.std.proofs.Common.{◌≡◌, drop}
use Rattle.hprof_convert.specs.Missing.{missing_in_parts}
use Rattle.hprof_convert.proofs.missing.missing_in_parts.Given as goal

abbrev pub invariant-loop-part : goal.invariant-loop-part
invariant-loop-part l = missing_in_parts l.width l.classes l.place (drop l.part-index l.parts) ≡ missing_in_parts l.width l.classes l.at l.parts
