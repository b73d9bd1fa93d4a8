use Rattle.card_table.proofs.CardLemmas.{is_dirty-clean}
use Rattle.card_table.proofs.cards.Cards.clean_all.Goals as goal

pub returns-clause-clean : goal.returns-clause-clean
returns-clause-clean c = is_dirty-clean c.self.inside.from c.self.inside.bytes c.clear.new.self c.clear.ensures.empty
