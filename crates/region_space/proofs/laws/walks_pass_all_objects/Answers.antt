use Rattle.region_space.proofs.WalkLemmas.{in_use-apart, in_use-filled, walk-first, walk-last, walk-lies, walk-next}
use Rattle.region_space.proofs.laws.walks_pass_all_objects.Goals as goal

pub returns-clause-first : goal.returns-clause-first
returns-clause-first c = λ rows size more is pack. walk-first rows size more is pack

pub returns-clause-next : goal.returns-clause-next
returns-clause-next c = λ s before more size follower space sizes pack. walk-next s.in_use before more size follower (in_use-filled s space) (in_use-apart s space) sizes pack

pub returns-clause-last : goal.returns-clause-last
returns-clause-last c = λ s before size space sizes pack. walk-last s.in_use before size (in_use-filled s space) (in_use-apart s space) sizes pack

pub returns-clause-lies : goal.returns-clause-lies
returns-clause-lies c = λ s before more size space sizes pack. walk-lies s.in_use before more size (in_use-filled s space) (in_use-apart s space) sizes pack
