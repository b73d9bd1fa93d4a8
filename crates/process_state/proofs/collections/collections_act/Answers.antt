use Rattle.process_state.proofs.Collected.{collected-acts}
use Rattle.process_state.proofs.collections.collections_act.Goals as goal

pub returns : goal.returns
returns c = collected-acts
