use Rattle.process_state.proofs.Same.{stands-uncounted}
use Rattle.process_state.proofs.laws.uncounted_changes_leave_it_standing.Goals as goal

pub returns : goal.returns
returns c = stands-uncounted
