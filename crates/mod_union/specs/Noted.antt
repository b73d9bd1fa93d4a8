-- The dirty cards, one after the other. No public clause cites this module.
use Rattle.std.specs.Prelude.{◌≡◌, ℕ, ◌<◌, ◌≤◌, true}
use Rattle.card_table.specs.CardSet.{is_dirty, CardSet}
use Rattle.mod_union.specs.declared.noted.TheConstants.{ALL_CARDS}

-- a dirty card, or the number behind all cards
pub record IsDirtyOrEnd (cards : CardSet) (card : ℕ) : Type 0 where
  pub most : card ≤ ALL_CARDS
  pub dirty : card < ALL_CARDS → is_dirty cards card ≡ true
