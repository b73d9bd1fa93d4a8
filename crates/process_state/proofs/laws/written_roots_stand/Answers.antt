use Rattle.process_state.proofs.Roots.{stands-written}
use Rattle.process_state.proofs.laws.written_roots_stand.Goals as goal

pub returns : goal.returns
returns c = λ s m p name held h. stands-written s m p h name held
