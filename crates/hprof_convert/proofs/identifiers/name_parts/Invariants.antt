use Rattle.std.proofs.Common.{◌≡◌, drop}
use Rattle.std.specs.List.{flat_map}
use Rattle.hprof_convert.specs.Names.{with_names}
use Rattle.hprof_convert.specs.Identifiers.{ids_of_part}
use Rattle.hprof_convert.proofs.identifiers.name_parts.Given as goal

abbrev pub invariant-loop-part : goal.invariant-loop-part
invariant-loop-part l = with_names l.names (flat_map (ids_of_part l.width l.classes) (drop l.part-index l.parts)) ≡ with_names l.fn.names (flat_map (ids_of_part l.width l.classes) l.parts)
