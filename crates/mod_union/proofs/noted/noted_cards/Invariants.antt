use Rattle.std.proofs.Common.{◌≡◌, ℕ, ◌<◌, ◌≤◌, true, false, length, get_or}
use Rattle.std.specs.Prelude.{min}
use Rattle.card_table.specs.CardSet.{is_dirty}
use Rattle.mod_union.specs.Lists.{itself, ListsBelow}
use Rattle.mod_union.specs.ModUnion.{is_noted}
use Rattle.mod_union.specs.Noted.{IsDirtyOrEnd}
use Rattle.mod_union.proofs.Cards.{all_cards}
use Rattle.mod_union.proofs.noted.noted_cards.Given as goal

-- the noted cards before the next record and the next dirty card are listed
abbrev pub invariant-loop-card : goal.invariant-loop-card
invariant-loop-card l = record {
  dirty : IsDirtyOrEnd l.cards l.dirty;
  past : (j : ℕ) → j < l.card-index → j < length l.records → get_or l.records j 0 ≤ l.dirty;
  first : (card : ℕ) → get_or l.records l.card-index all_cards ≤ card → card < l.dirty → is_dirty l.cards card ≡ false;
  listed : ListsBelow itself (λ card. is_noted l.records l.cards card ≡ true) (min l.dirty (get_or l.records l.card-index all_cards)) l.noted.items;
}
