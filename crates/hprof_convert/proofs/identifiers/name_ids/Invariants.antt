use Rattle.std.proofs.Common.{◌≡◌, drop}
use Rattle.hprof_convert.specs.Names.{with_names}
use Rattle.hprof_convert.proofs.identifiers.name_ids.Given as goal

abbrev pub invariant-loop-id : goal.invariant-loop-id
invariant-loop-id l = with_names l.names (drop l.id-index l.ids) ≡ with_names l.fn.names l.ids
