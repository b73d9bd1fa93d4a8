use Rattle.std.proofs.Common.{ap, ◌∙◌, arith}
use Rattle.card_table.specs.CardSet.{is_dirty}
use Rattle.card_table.proofs.CardLemmas.{is_dirty-grow}
use Rattle.card_table.proofs.cards.Cards.grow.Goals as goal

pub returns-in_ok-grow-clause-same_cards : goal.returns-in_ok-grow-clause-same_cards
returns-in_ok-grow-clause-same_cards c = λ card.
    is_dirty-grow c.self.inside.from c.self.inside.bytes c.self.inside.bits c.self.invariant c.grow.new.self c.args.bytes (omega arith)
    c.in_ok-grow.ensures.keeps_members card
    ∙ ap (λ t. is_dirty t card) c.self.view_is
