use Rattle.std.proofs.Common.{◌≡◌, map, take}
use Rattle.hprof_convert.specs.Converted.{converted_part}
use Rattle.hprof_convert.proofs.converted.converted_parts.Given as goal

abbrev pub invariant-loop-part : goal.invariant-loop-part
invariant-loop-part l = l.converted ≡ map (converted_part l.width l.classes l.names) (take l.part-index l.parts)
