use Rattle.std.proofs.Common.{◌≡◌, drop}
use Rattle.std.specs.List.{flat_map}
use Rattle.hprof_convert.specs.Names.{with_names}
use Rattle.hprof_convert.specs.Identifiers.{static_ids}
use Rattle.hprof_convert.proofs.identifiers.name_statics.Given as goal

abbrev pub invariant-loop-one : goal.invariant-loop-one
invariant-loop-one l = with_names l.names (flat_map (static_ids l.width) (drop l.one-index l.list)) ≡ with_names l.fn.names (flat_map (static_ids l.width) l.list)
