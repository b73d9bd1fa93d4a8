use Rattle.std.proofs.Common.{◌≡◌, map, take}
use Rattle.hprof_convert.specs.Converted.{renamed_static}
use Rattle.hprof_convert.proofs.converted.renamed_statics.Given as goal

abbrev pub invariant-loop-one : goal.invariant-loop-one
invariant-loop-one l = l.renamed ≡ map (renamed_static l.width l.names) (take l.one-index l.list)
