use Rattle.std.proofs.Common.{Some, refl, subst}
use Rattle.bit_set.proofs.SetLemmas.{IsNone-from}
use Rattle.card_table.specs.CardSet.{is_dirty_start, IsWellPlaced}
use Rattle.card_table.proofs.CardLemmas.{well_placed, least_card, none_from_card}
use Rattle.card_table.proofs.cards.Cards.next_dirty.Goals as goal

pub returns-in_err-k-clause-none : goal.returns-in_err-k-clause-none
returns-in_err-k-clause-none c =
    rw c.from_residual.ensures (
      λ _. none_from_card c.self.inside.from c.self.inside.bytes c.self.inside.bits c.self.invariant c.args.self.now c.self.view_is
          c.args.from.0 c.first_card.result c.first_card.ensures (c.in_err-k.ensures.none.0 refl),
      λ _. refl,
    )

pub returns-in_err-k-clause-well_placed : goal.returns-in_err-k-clause-well_placed
returns-in_err-k-clause-well_placed c =
    subst IsWellPlaced c.self.view_is (well_placed c.self.inside.from c.self.inside.bytes c.self.inside.bits c.self.invariant)

pub returns-clause-found : goal.returns-clause-found
returns-clause-found c =
    least_card c.self.inside.from c.self.inside.bytes c.self.inside.bits c.self.invariant c.args.self.now c.self.view_is
    c.args.from.0 c.first_card.result c.first_card.ensures c.in_ok-k.k c.in_ok-k.ensures.found

pub returns-clause-none : goal.returns-clause-none
returns-clause-none c = IsNone-from (is_dirty_start c.args.self.now) c.args.from.0 (Some _) (returns-clause-found c) tt

pub returns-clause-well_placed : goal.returns-clause-well_placed
returns-clause-well_placed c =
    subst IsWellPlaced c.self.view_is (well_placed c.self.inside.from c.self.inside.bytes c.self.inside.bits c.self.invariant)
