use Rattle.std.proofs.Common.{◌≡◌, drop}
use Rattle.std.specs.List.{flat_map}
use Rattle.hprof_convert.specs.Names.{named, with_names}
use Rattle.hprof_convert.specs.Identifiers.{ids_of_record}
use Rattle.hprof_convert.proofs.identifiers.names_of.Given as goal

abbrev pub invariant-loop-one : goal.invariant-loop-one
invariant-loop-one l = with_names l.names (flat_map (ids_of_record l.width l.classes) (drop l.one-index l.records)) ≡ named (flat_map (ids_of_record l.width l.classes) l.records)
