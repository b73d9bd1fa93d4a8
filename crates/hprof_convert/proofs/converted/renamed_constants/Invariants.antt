use Rattle.std.proofs.Common.{◌≡◌, map, take}
use Rattle.hprof_convert.specs.Converted.{renamed_constant}
use Rattle.hprof_convert.proofs.converted.renamed_constants.Given as goal

abbrev pub invariant-loop-one : goal.invariant-loop-one
invariant-loop-one l = l.renamed ≡ map (renamed_constant l.width l.names) (take l.one-index l.list)
