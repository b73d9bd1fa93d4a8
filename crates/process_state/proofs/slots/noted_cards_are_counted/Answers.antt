use Rattle.process_state.proofs.Counted.{count-cards}
use Rattle.process_state.proofs.slots.noted_cards_are_counted.Goals as goal

pub returns : goal.returns
returns c = λ s m p stands. count-cards s p stands.cards
