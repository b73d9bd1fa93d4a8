use Rattle.process_state.proofs.Following.{follow}
use Rattle.process_state.proofs.acting.steps_follow_one_another.Goals as goal

pub returns : goal.returns
returns c = follow
