use Rattle.std.proofs.Common.{ℕ, ◌≡◌, ◌∙◌, ◌+◌, false, List, Vec, Global, sym, ap, subst, arith}
use Rattle.object_view.specs.declared.names.Slot.{Slot}
use Rattle.mod_union.proofs.SlotCards.{AreCardsOf, cards-all, cards-are, cards-more, cards-none, cards-same}
use Rattle.mod_union.proofs.noted.cards_of.Goals as goal
use Rattle.mod_union.proofs.noted.cards_of.Goals.{then-card-next+in_ok-push, else-card-next}

pub loop-slot-init : goal.loop-slot-init
loop-slot-init c = record { cards = cards-none c.args.slots.now c.new-cards.result.items c.requires c.new-cards.ensures.items; within = omega arith }

abbrev no_slot : Slot
no_slot = record { at = record { 0 = 0 }; target = record { 0 = 0 }; weak = false }

pub loop-slot-preserved : goal.loop-slot-preserved
loop-slot-preserved c = elim c.if-card-next.branch [
  | then-card-next+in_ok-push w ↦
      let it = cards-more c.args.slots.now c.loop-slot.slot-index c.loop-slot.next c.loop-slot.cards.items no_slot c.loop-slot.invariant.cards (omega arith) w.if-card-next.true in
      let items = ap (λ (v : Vec ℕ Global). v.items) w.cards-is ∙ w.in_ok-push.ensures.items in
      record {
        cards = here (c.loop-slot.slot-index + 1) w.next-is items it;
        within = omega (arith, w.next-is);
      }
  | else-card-next w ↦
      let it = cards-same c.args.slots.now c.loop-slot.slot-index c.loop-slot.next c.loop-slot.cards.items no_slot c.loop-slot.invariant.cards (omega arith) w.if-card-next.false in
      let was = c.loop-slot.invariant.within in
      record {
        cards = here (c.loop-slot.slot-index + 1) w.next-is (ap (λ (v : Vec ℕ Global). v.items) w.cards-is) it;
        within = omega (arith, w.next-is, was);
      }
]
  where
    here : (i : ℕ) {next other : ℕ} {cards others : List ℕ} → next ≡ other → cards ≡ others → AreCardsOf c.args.slots.now i other others → AreCardsOf c.args.slots.now i next cards
    here i {next} {other} {cards} {others} e f h = subst (λ n. AreCardsOf c.args.slots.now i n cards) (sym e) (subst (AreCardsOf c.args.slots.now i other) (sym f) h)

pub returns-clause-cards : goal.returns-clause-cards
returns-clause-cards c = cards-are c.args.slots.now c.loop-slot.slot-index c.loop-slot.next c.loop-slot.cards.items c.loop-slot.invariant.cards c.loop-slot.invariant.within

pub returns-clause-exact : goal.returns-clause-exact
returns-clause-exact c = cards-all c.args.slots.now c.loop-slot.slot-index c.loop-slot.next c.loop-slot.cards.items c.loop-slot.invariant.cards (omega arith)
