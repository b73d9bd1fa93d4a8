use Rattle.world_laws.proofs.InOrder.{first_in_order, run_in_order, step_in_order}
use Rattle.world_laws.proofs.worlds.worlds_stay_in_order.Goals as goal

pub returns-clause-first : goal.returns-clause-first
returns-clause-first c = first_in_order

pub returns-clause-step : goal.returns-clause-step
returns-clause-step c = step_in_order

pub returns-clause-script : goal.returns-clause-script
returns-clause-script c = run_in_order
