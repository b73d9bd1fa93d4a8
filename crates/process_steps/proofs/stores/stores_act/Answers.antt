use Rattle.process_steps.proofs.Stored.{stored-acts}
use Rattle.process_steps.proofs.stores.stores_act.Goals as goal

pub returns : goal.returns
returns c = stored-acts
