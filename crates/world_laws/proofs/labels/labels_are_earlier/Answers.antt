use Rattle.world_laws.proofs.Earlier.{step_earlier, step_own}
use Rattle.world_laws.proofs.labels.labels_are_earlier.Goals as goal

pub returns-clause-step : goal.returns-clause-step
returns-clause-step c w line command = step_earlier w line command

pub returns-clause-own : goal.returns-clause-own
returns-clause-own c w line command = step_own w line command
