use Rattle.std.proofs.Common.{◌||◌, ◌==◌, subst, sym, ap, ◌∙◌}
use Rattle.card_table.specs.CardSet.{card_of, is_dirty, IsInSpan}
use Rattle.card_table.proofs.CardLemmas.{is_dirty-dirty}
use Rattle.card_table.proofs.cards.Cards.dirty.Goals as goal

pub returns-clause-card : goal.returns-clause-card
returns-clause-card c = λ card.
    is_dirty-dirty c.self.inside.from c.self.inside.bytes c.self.inside.bits c.self.invariant c.insert.new.self c.args.at.0
    (subst (λ t. IsInSpan t c.args.at.0) (sym c.self.view_is) c.requires) c.insert.ensures.member card
    ∙ ap (λ t. (card == card_of c.args.at.0) || is_dirty t card) c.self.view_is
