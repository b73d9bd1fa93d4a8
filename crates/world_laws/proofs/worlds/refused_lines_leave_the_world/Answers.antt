use Rattle.world_laws.proofs.Refusing.{step_full, step_left}
use Rattle.world_laws.proofs.worlds.refused_lines_leave_the_world.Goals as goal

pub returns-clause-left : goal.returns-clause-left
returns-clause-left c = step_left

pub returns-clause-full : goal.returns-clause-full
returns-clause-full c = step_full
