use Rattle.process_steps.proofs.FewSlots.{slots-few}
use Rattle.process_steps.proofs.counts.slots_are_few.Goals as goal

pub returns : goal.returns
returns c = slots-few
