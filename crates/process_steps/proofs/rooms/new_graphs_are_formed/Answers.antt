use Rattle.process_steps.proofs.NewFormed.{new-formed, new-stored}
use Rattle.process_steps.proofs.rooms.new_graphs_are_formed.Goals as goal

pub returns : goal.returns
returns c = record { formed = new-formed; stored = new-stored }
