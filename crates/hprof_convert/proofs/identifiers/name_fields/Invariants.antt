use Rattle.std.proofs.Common.{◌≡◌, drop}
use Rattle.std.specs.List.{flat_map}
use Rattle.hprof_convert.specs.Names.{with_names}
use Rattle.hprof_convert.specs.Identifiers.{field_ids}
use Rattle.hprof_convert.proofs.identifiers.name_fields.Given as goal

abbrev pub invariant-loop-one : goal.invariant-loop-one
invariant-loop-one l = with_names l.names (flat_map field_ids (drop l.one-index l.list)) ≡ with_names l.fn.names (flat_map field_ids l.list)
