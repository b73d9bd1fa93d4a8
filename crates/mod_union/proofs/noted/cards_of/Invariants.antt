use Rattle.std.proofs.Common.{◌≤◌, ◌*◌, ◌^◌}
use Rattle.model_numbers.specs.Numbers.{card_bytes}
use Rattle.mod_union.proofs.SlotCards.{AreCardsOf}
use Rattle.mod_union.proofs.noted.cards_of.Given as goal

-- the cards of the slots before this one are listed
abbrev pub invariant-loop-slot : goal.invariant-loop-slot
invariant-loop-slot l = record {
  cards : AreCardsOf l.slots l.slot-index l.next l.cards.items;
  within : card_bytes * l.next ≤ 2 ^ 32;
}
