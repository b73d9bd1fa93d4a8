use Rattle.heap_world.proofs.FormedActs.{act_keeps, fork_keeps}
use Rattle.heap_world.proofs.FormedKept.{child_formed, first_formed}
use Rattle.heap_world.proofs.formed.graphs_are_formed.Goals as goal

pub returns-clause-first : goal.returns-clause-first
returns-clause-first c = first_formed

pub returns-clause-act : goal.returns-clause-act
returns-clause-act c = act_keeps

pub returns-clause-child : goal.returns-clause-child
returns-clause-child c = child_formed

pub returns-clause-fork : goal.returns-clause-fork
returns-clause-fork c = λ p sealed formed. fork_keeps p formed sealed
