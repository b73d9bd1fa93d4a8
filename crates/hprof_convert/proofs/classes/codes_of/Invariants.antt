use Rattle.std.proofs.Common.{◌≡◌, map, take}
use Rattle.hprof_convert.proofs.classes.codes_of.Given as goal

abbrev pub invariant-loop-field : goal.invariant-loop-field
invariant-loop-field l = l.codes.items ≡ map (λ f. f.1) (take l.field-index l.list)
