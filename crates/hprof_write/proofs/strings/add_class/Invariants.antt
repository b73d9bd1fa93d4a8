use Rattle.std.proofs.Common.{◌≡◌, ◌∷◌, take, map}
use Rattle.std.specs.List.{fold}
use Rattle.hprof_write.specs.Strings.{with_text}
use Rattle.hprof_write.proofs.strings.add_class.Given as goal

abbrev pub invariant-loop-f : goal.invariant-loop-f
invariant-loop-f l = l.strings.keys ≡ fold with_text l.fn.strings.keys (l.fn.name ∷ map (λ f. f.name) (take l.f-index l.fields))
