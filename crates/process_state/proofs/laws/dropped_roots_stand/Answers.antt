use Rattle.process_state.proofs.Roots.{stands-dropped}
use Rattle.process_state.proofs.laws.dropped_roots_stand.Goals as goal

pub returns : goal.returns
returns c = λ s m p name h. stands-dropped s m p h name
