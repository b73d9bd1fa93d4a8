use Rattle.std.proofs.Common.{◌≡◌, map, take}
use Rattle.hprof_convert.specs.Names.{rename}
use Rattle.hprof_convert.proofs.converted.renamed_ids.Given as goal

abbrev pub invariant-loop-one : goal.invariant-loop-one
invariant-loop-one l = l.renamed ≡ map (rename l.names) (take l.one-index l.list)
