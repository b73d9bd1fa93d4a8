use Rattle.process_state.proofs.Forked.{child-forked, stands-forked}
use Rattle.process_state.proofs.laws.forked_processes_stand.Goals as goal

pub returns : goal.returns
returns c = record { parent = stands-forked; child = child-forked }
