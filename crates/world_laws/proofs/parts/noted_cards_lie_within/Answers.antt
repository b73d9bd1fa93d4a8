use Rattle.world_laws.proofs.NotedCards.{act_notes, few_noted, fork_notes}
use Rattle.world_laws.proofs.parts.noted_cards_lie_within.Goals as goal

pub returns-clause-act : goal.returns-clause-act
returns-clause-act c p v few sound notes = act_notes p sound notes v few

pub returns-clause-fork : goal.returns-clause-fork
returns-clause-fork c p sealed sound notes = fork_notes p sound notes sealed

pub returns-clause-count : goal.returns-clause-count
returns-clause-count c = few_noted
