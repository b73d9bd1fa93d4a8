use Rattle.std.proofs.Common.{subst, sym, ap, ◌∙◌}
use Rattle.card_table.specs.CardSet.{card_of, is_dirty, IsInSpan}
use Rattle.card_table.proofs.CardLemmas.{is_dirty-at}
use Rattle.card_table.proofs.cards.Cards.is_dirty.Goals as goal

pub returns : goal.returns
returns c =
    c.contains.ensures
    ∙ sym (is_dirty-at c.self.inside.from c.self.inside.bytes c.self.inside.bits c.self.invariant c.args.at.0
    (subst (λ t. IsInSpan t c.args.at.0) (sym c.self.view_is) c.requires))
    ∙ ap (λ t. is_dirty t (card_of c.args.at.0)) c.self.view_is
