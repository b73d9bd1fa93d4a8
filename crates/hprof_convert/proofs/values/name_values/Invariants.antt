use Rattle.std.proofs.Common.{◌≡◌, drop}
use Rattle.hprof_convert.specs.Names.{with_names}
use Rattle.hprof_convert.specs.Values.{ids_among}
use Rattle.hprof_convert.proofs.values.name_values.Given as goal

abbrev pub invariant-loop-code : goal.invariant-loop-code
invariant-loop-code l = with_names l.names (ids_among l.width (drop l.code-index l.codes) l.rest) ≡ with_names l.fn.names (ids_among l.width l.codes l.fn.bytes)
