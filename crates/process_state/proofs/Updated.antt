-- A process whose dirty and recorded cards of a window are those of the slots that lead out of it.
use Rattle.std.proofs.Common.{◌≡◌, ◌∙◌, ℕ, ◌+◌, true, List, nat_eq, refl, sym, subst, arith, true≢false}
use Rattle.std.specs.List.{AllByRecursion}
use Rattle.std.proofs.lemmas.Bool.{eq-eqb, eqb-true}
use Rattle.card_table.specs.CardSet.{card_of}
use Rattle.cow_pages.specs.Memory.{Memory}
use Rattle.heap_graph.specs.declared.names.Place.{Place}
use Rattle.heap_graph.specs.declared.names.Place.TheVariants as place
use Rattle.heap_graph.specs.Formed.{is_in_image}
use Rattle.heap_graph.specs.Graph.{Graph}
use Rattle.heap_world.specs.declared.names.Card.{Card}
use Rattle.heap_world.specs.declared.names.Card.TheVariants as card
use Rattle.heap_world.specs.Cards.{cards_in, outward_cards}
use Rattle.heap_world.specs.Cards as world
use Rattle.heap_world.specs.Part.{Part}
use Rattle.world_laws.proofs.OutwardPages.{cards_all, cards_one}
use Rattle.object_view.specs.declared.names.Slot.{Slot}
use Rattle.graph_pages.proofs.Lists.{any-from, any-to}
use Rattle.mod_union.specs.ModUnion.{has_slot_on, is_noted, AreOutward, IsOutwardSlot}
use Rattle.process_state.specs.Cards.{has_noted, NotesCards, NotesWindow}
use Rattle.process_state.specs.Slots.{is_in_zygote, raws_in}
use Rattle.process_state.specs.Stands.{StandsIn}
use Rattle.process_state.specs.State.{Notes, State}
use Rattle.process_state.proofs.Outward.{card-slots, slot-card}
use Rattle.process_state.proofs.Spaces.{image-window, the_image, the_zygote, zygote-window, IsWindow, SpotWindow}

-- with other notes of its cards a process stands where those are right
with-notes : (s : State) (m : Memory) (p : Part) (image zygote : Notes) → StandsIn s m p → NotesCards (record s { image_notes = image; zygote_notes = zygote }) p
    → StandsIn (record s { image_notes = image; zygote_notes = zygote }) m p
with-notes s m p image zygote k cards = record {
  lives = k.lives;
  part = k.part;
  outward = k.outward;
  within = k.within;
  counts = record {
    names = k.counts.names;
    next = k.counts.next;
    numbered = k.counts.numbered;
    budget = k.counts.budget;
    is_sealed = k.counts.is_sealed;
    dumps = k.counts.dumps;
    objects = k.counts.objects;
    promoted = k.counts.promoted;
  };
  heap = k.heap;
  flags = record { touched = k.flags.touched; waiting = k.flags.waiting };
  cards = cards;
  alone = k.alone;
  image_is = k.image_is;
  zygote_is = k.zygote_is;
  image = k.image;
  zygote = k.zygote;
}

module _ (s : State) (m : Memory) (p : Part) (k : StandsIn s m p) (sealed : p.graph.sealed ≡ true) (notes : Notes) (found : List Slot)
    (same : (card : ℕ) → is_noted notes.records notes.cards card ≡ has_slot_on found card) where
  abbrev g : Graph
  g = p.graph

  abbrev IsWorld : Card → Type 0
  IsWorld c = world.is_noted p.stored p.held c ≡ true

  module _ (w : SpotWindow) (is_window : IsWindow s m p k w) (are : AreOutward s.classes (raws_in w.has s p.graph) s.rows found) where
    -- a noted card is one of the part's
    noted-card : (card : ℕ) → is_noted notes.records notes.cards card ≡ true → (n : ℕ) × (card_of w.base + n ≡ card) × IsWorld (w.card n)
    noted-card card noted =
        let it = any-from (λ (slot : Slot). nat_eq card (card_of slot.at.0)) found (sym (same card) ∙ noted) in
        let on = slot-card s m p k sealed w is_window IsWorld it.0 ((are.exact it.0).0 it.1) k.part.outward_noted in
        (on.0, on.1 ∙ sym (eqb-true card (card_of it.0.at.0) it.2), on.2)

    noted-window : (old : Notes) → NotesWindow w.base w.bytes old → notes.cards.start ≡ old.cards.start → notes.cards.span ≡ old.cards.span → NotesWindow w.base w.bytes notes
    noted-window old was start span =
        record { start = start ∙ was.start; span = span ∙ was.span; behind = λ card noted. let it = noted-card card noted in omega (arith, it.1) }

    noted-one : (n : ℕ) → is_noted notes.records notes.cards (card_of w.base + n) ≡ true → IsWorld (w.card n)
    noted-one n noted =
        let it = noted-card (card_of w.base + n) noted in
        let e : it.0 ≡ n = omega (arith, it.1) in
        subst (λ j. IsWorld (w.card j)) e it.2

    -- the card of a slot is noted
    slot-noted : (slot : Slot) (n : ℕ) → IsOutwardSlot s.classes (raws_in w.has s p.graph) s.rows slot → card_of w.base + n ≡ card_of slot.at.0 → is_noted notes.records notes.cards (card_of w.base + n) ≡ true
    slot-noted slot n is e = same (card_of w.base + n) ∙ any-to (λ (x : Slot). nat_eq (card_of w.base + n) (card_of x.at.0)) found slot ((are.exact slot).1 is) (eq-eqb _ _ e)

  abbrev HasNoted : State → Card → Type 0
  HasNoted t c = has_noted t c ≡ true

  -- with these notes of a window's cards all outward slots lie on noted cards, where the other window's notes stay
  all-noted : (w : SpotWindow) → IsWindow s m p k w → AreOutward s.classes (raws_in w.has s p.graph) s.rows found → (next : State)
      → ((n : ℕ) → is_noted notes.records notes.cards (card_of w.base + n) ≡ true → HasNoted next (w.card n))
      → ((at : Place) (offset : ℕ) → AllByRecursion (HasNoted s) (cards_in at offset) → (w.has at ≡ true → AllByRecursion (HasNoted next) (cards_in at offset)) → AllByRecursion (HasNoted next) (cards_in at offset))
      → AllByRecursion (HasNoted next) (outward_cards p.graph)
  all-noted w is_window are next noted by = cards_all (HasNoted next) g g.objects (λ o st there stored immune out.
      by o.place st.at.offset (cards_one (HasNoted s) g g.objects o st k.cards.outward there stored immune out)
      (λ here. card-slots s m p k sealed w is_window (HasNoted next) (λ slot n is e. noted n (slot-noted w is_window are slot n is e)) o st there here stored out))

  pub image-updated : AreOutward s.classes (raws_in is_in_image s p.graph) s.rows found → notes.cards.start ≡ s.image_notes.cards.start → notes.cards.span ≡ s.image_notes.cards.span
      → StandsIn (record s { image_notes = notes }) m p
  image-updated are start span = with-notes s m p notes s.zygote_notes k (record {
    image = noted-window the_image (image-window s m p k) are s.image_notes k.cards.image start span;
    zygote = k.cards.zygote;
    noted = λ c. elim c as (λ c. HasNoted (record s { image_notes = notes }) c → IsWorld c) [
      | card.Image n ↦ noted-one the_image (image-window s m p k) are n
      | card.Zygote n ↦ k.cards.noted (card.Zygote n)
    ];
    outward = all-noted the_image (image-window s m p k) are (record s { image_notes = notes }) (λ n is. is) by;
    before_seal = λ e. absurd (true≢false (sym sealed ∙ e));
  })
    where
      by : (at : Place) (offset : ℕ) → AllByRecursion (HasNoted s) (cards_in at offset) → (is_in_image at ≡ true → AllByRecursion (HasNoted (record s { image_notes = notes })) (cards_in at offset))
          → AllByRecursion (HasNoted (record s { image_notes = notes })) (cards_in at offset)
      by (place.Image spot) offset old new = new refl
      by (place.Zygote spot) offset old new = old
      by place.Young offset old new = tt
      by place.Large offset old new = tt
      by place.Promoted offset old new = tt

  pub zygote-updated : AreOutward s.classes (raws_in is_in_zygote s p.graph) s.rows found → notes.cards.start ≡ s.zygote_notes.cards.start → notes.cards.span ≡ s.zygote_notes.cards.span
      → StandsIn (record s { zygote_notes = notes }) m p
  zygote-updated are start span = with-notes s m p s.image_notes notes k (record {
    image = k.cards.image;
    zygote = noted-window the_zygote (zygote-window s m p k) are s.zygote_notes k.cards.zygote start span;
    noted = λ c. elim c as (λ c. HasNoted (record s { zygote_notes = notes }) c → IsWorld c) [
      | card.Image n ↦ k.cards.noted (card.Image n)
      | card.Zygote n ↦ noted-one the_zygote (zygote-window s m p k) are n
    ];
    outward = all-noted the_zygote (zygote-window s m p k) are (record s { zygote_notes = notes }) (λ n is. is) by;
    before_seal = λ e. absurd (true≢false (sym sealed ∙ e));
  })
    where
      by : (at : Place) (offset : ℕ) → AllByRecursion (HasNoted s) (cards_in at offset) → (is_in_zygote at ≡ true → AllByRecursion (HasNoted (record s { zygote_notes = notes })) (cards_in at offset))
          → AllByRecursion (HasNoted (record s { zygote_notes = notes })) (cards_in at offset)
      by (place.Image spot) offset old new = old
      by (place.Zygote spot) offset old new = new refl
      by place.Young offset old new = tt
      by place.Large offset old new = tt
      by place.Promoted offset old new = tt
