use Rattle.process_steps.proofs.Beginning.{first-stands}
use Rattle.process_steps.proofs.seals.first_processes_stand.Goals as goal

pub returns : goal.returns
returns c = first-stands
