use Rattle.process_steps.proofs.FewCards.{held-few}
use Rattle.process_steps.proofs.counts.held_cards_are_noted.Goals as goal

pub returns : goal.returns
returns c = held-few
