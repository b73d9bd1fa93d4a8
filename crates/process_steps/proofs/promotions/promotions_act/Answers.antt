use Rattle.process_steps.proofs.Promotion.{promotion-acts}
use Rattle.process_steps.proofs.promotions.promotions_act.Goals as goal

pub returns : goal.returns
returns c = promotion-acts
