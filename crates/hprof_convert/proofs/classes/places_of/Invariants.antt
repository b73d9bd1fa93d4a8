use Rattle.std.proofs.Common.{◌≡◌, map, take}
use Rattle.hprof_convert.proofs.classes.places_of.Given as goal

abbrev pub invariant-loop-class : goal.invariant-loop-class
invariant-loop-class l = l.places ≡ map (λ c. c.id) (take l.class-index l.known)
