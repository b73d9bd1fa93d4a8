use Rattle.world_laws.proofs.Owning.{own_apart, step_own_lines}
use Rattle.world_laws.proofs.labels.own_pages_have_own_lines.Goals as goal

pub returns-clause-step : goal.returns-clause-step
returns-clause-step c = step_own_lines

pub returns-clause-apart : goal.returns-clause-apart
returns-clause-apart c = own_apart
