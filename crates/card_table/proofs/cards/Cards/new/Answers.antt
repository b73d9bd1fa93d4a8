use Rattle.card_table.proofs.CardLemmas.{is_dirty-clean}
use Rattle.card_table.proofs.cards.Cards.new.Goals as goal

pub returns-clause-clean : goal.returns-clause-clean
returns-clause-clean c = is_dirty-clean _ _ c.new.result c.new.ensures.empty
