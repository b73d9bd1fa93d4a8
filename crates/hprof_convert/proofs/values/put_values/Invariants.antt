use Rattle.std.proofs.Common.{◌≡◌, ◌++◌, drop}
use Rattle.hprof_convert.specs.Values.{renamed_values}
use Rattle.hprof_convert.proofs.values.put_values.Given as goal

abbrev pub invariant-loop-code : goal.invariant-loop-code
invariant-loop-code l = l.out.items ++ renamed_values l.width l.names (drop l.code-index l.codes) l.rest ≡ l.fn.out.items ++ renamed_values l.width l.names l.codes l.fn.bytes
