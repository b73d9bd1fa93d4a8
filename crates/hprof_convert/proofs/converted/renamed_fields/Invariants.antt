use Rattle.std.proofs.Common.{◌≡◌, map, take}
use Rattle.hprof_convert.specs.Converted.{renamed_field}
use Rattle.hprof_convert.proofs.converted.renamed_fields.Given as goal

abbrev pub invariant-loop-one : goal.invariant-loop-one
invariant-loop-one l = l.renamed ≡ map (renamed_field l.names) (take l.one-index l.list)
