use Rattle.process_state.proofs.Keeping.{keeps-graph}
use Rattle.process_state.proofs.slots.graphs_are_kept.Goals as goal

pub returns : goal.returns
returns c = λ s m p image zygote stands sealed of_image of_zygote. keeps-graph s m p stands sealed image zygote of_image of_zygote
