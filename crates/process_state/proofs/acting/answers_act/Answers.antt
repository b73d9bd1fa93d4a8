use Rattle.process_state.proofs.Following.{answers}
use Rattle.process_state.proofs.acting.answers_act.Goals as goal

pub returns : goal.returns
returns c = answers
