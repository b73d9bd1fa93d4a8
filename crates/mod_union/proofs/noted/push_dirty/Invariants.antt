use Rattle.std.proofs.Common.{◌≡◌, ℕ, ◌-◌, ◌<◌, ◌≤◌, Bool, true, false}
use Rattle.std.specs.Prelude.{min}
use Rattle.card_table.specs.CardSet.{is_dirty}
use Rattle.mod_union.specs.Lists.{itself, ListsBelow}
use Rattle.mod_union.specs.Noted.{IsDirtyOrEnd}
use Rattle.mod_union.proofs.noted.push_dirty.Given as goal

-- the dirty cards before this one are listed
abbrev pub invariant-loop-next : goal.invariant-loop-next
invariant-loop-next l = record {
  low : l.dirty ≤ l.next;
  dirty : IsDirtyOrEnd l.cards l.next;
  first : (card : ℕ) → l.to ≤ card → card < l.next → is_dirty l.cards card ≡ false;
  listed : (test : ℕ → Bool) → ((card : ℕ) → l.dirty ≤ card → card < l.to → test card ≡ is_dirty l.cards card)
      → ListsBelow itself (λ card. test card ≡ true) (min l.dirty l.to) l.fn.noted.items → ListsBelow itself (λ card. test card ≡ true) (min l.next l.to) l.noted.items;
}

abbrev pub decreases-loop-next : goal.decreases-loop-next
decreases-loop-next l = l.to - l.next
