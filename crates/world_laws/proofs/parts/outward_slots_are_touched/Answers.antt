use Rattle.world_laws.proofs.OutwardPages.{act_touches, fork_touches}
use Rattle.world_laws.proofs.parts.outward_slots_are_touched.Goals as goal

pub returns-clause-act : goal.returns-clause-act
returns-clause-act c = act_touches

pub returns-clause-fork : goal.returns-clause-fork
returns-clause-fork c = fork_touches
