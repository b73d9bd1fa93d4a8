-- A process that is sealed stands for its sealed part.
use Rattle.std.proofs.Common.{◌≡◌, ◌∙◌, true, false, true≢false, [], refl, sym, subst}
use Rattle.std.proofs.lemmas.Bool.{and_parts}
use Rattle.cow_pages.specs.Memory.{Memory}
use Rattle.heap_graph.specs.declared.names.Place.{Place}
use Rattle.heap_graph.specs.declared.names.Place.TheVariants as place
use Rattle.heap_graph.specs.Formed.{is_in_image}
use Rattle.heap_graph.specs.Graph.{is_immune, Object}
use Rattle.heap_graph.proofs.LaidOut.{all-weaken}
use Rattle.heap_world.specs.declared.command.Verb.TheVariants as verb
use Rattle.heap_world.specs.declared.names.Card.{Card}
use Rattle.heap_world.specs.declared.names.Card.TheVariants as card
use Rattle.heap_world.specs.declared.names.PageName.{PageName}
use Rattle.heap_world.specs.declared.names.PageName.TheVariants.{Image, Zygote, Large}
use Rattle.heap_world.specs.Acts.{act, seal_if}
use Rattle.heap_world.specs.Part.{Part}
use Rattle.heap_world.specs.Sound.{IsSound}
use Rattle.heap_world.proofs.Noted.{all-immune}
use Rattle.heap_world.proofs.SoundActs.{act_sound}
use Rattle.world_laws.specs.Named.{has_page, is_waiting, waits}
use Rattle.world_laws.specs.Outward.{NotesWithin, TouchesOutward}
use Rattle.world_laws.proofs.NotedCards.{act_notes}
use Rattle.world_laws.proofs.OutwardPages.{act_touches}
use Rattle.address_table.proofs.Beside.{all-in}
use Rattle.graph_pages.proofs.Lists.{any-from}
use Rattle.evacuate.specs.Stands.{HoldsHeap}
use Rattle.process_state.specs.Acts.{Acts, Step}
use Rattle.process_state.specs.Cards.{card_number, has_noted, NotesCards}
use Rattle.process_state.specs.Stands.{StandsIn}
use Rattle.process_state.specs.State.{heap_of, State}
use Rattle.process_steps.specs.Settling.{Settles}
use Rattle.process_steps.proofs.Settled.{flag-settled, frame-settled, heap-settled, only-settled}

image-immune : (at : Place) → is_in_image at ≡ true → is_immune true at ≡ true
image-immune (place.Image spot) e = refl
image-immune (place.Zygote spot) e = refl
image-immune place.Young e = absurd (true≢false (sym e))
image-immune place.Large e = absurd (true≢false (sym e))
image-immune place.Promoted e = refl

waiting-outside : (at : Place) → is_in_image at ≡ true → is_waiting at ≡ true → ⊥
waiting-outside (place.Image spot) e is = true≢false (sym is)
waiting-outside (place.Zygote spot) e is = true≢false (sym is)
waiting-outside place.Young e is = true≢false (sym is)
waiting-outside place.Large e is = true≢false (sym e)
waiting-outside place.Promoted e is = true≢false (sym is)

module _ (s : State) (was now : Memory) (p : Part) (k : StandsIn s was p) (unsealed : p.graph.sealed ≡ false) (is : Settles was now s.page_table) where
  abbrev next : State
  next = record s { sealed = true }

  abbrev after : Part
  after = record p { graph = record p.graph { sealed = true }; touched = []; stored = [] }

  part : IsSound after
  part = subst (λ b. IsSound (seal_if b p).part) unsealed (act_sound p verb.Seal tt k.part)

  heap : HoldsHeap (heap_of (record s { sealed = true }) []) now s.page_table (record p.graph { sealed = true })
  heap =
      let held = heap-settled was now s.page_table is s p.graph k.heap in
      record {
        formed = part.formed;
        house = record { regions = held.house.regions; slots = held.house.slots; for_young = held.house.for_young; for_large = held.house.for_large };
        pages = record { objects = held.pages.objects; pages = held.pages.pages };
        stands = record { classes = held.stands.classes; packed = held.stands.packed; objects = held.stands.objects; no_from = held.stands.no_from; half = held.stands.half; count = held.stands.count; rows = held.stands.rows; roots = held.stands.roots };
        regions = held.regions;
        large = held.large;
        space = held.space;
        sound = held.sound;
        live = held.live;
      }

  -- before the seal no large object stands
  none-waits : (a : PageName) → waits p.graph a ≡ true → ⊥
  none-waits (Image j) waiting = true≢false (sym waiting)
  none-waits (Zygote j) waiting = true≢false (sym waiting)
  none-waits (Large n j) waiting =
      let it = any-from (has_page is_waiting p.graph.classes n j) p.graph.objects waiting in
      let inner = and_parts (is_waiting it.0.place) _ (and_parts _ _ it.2).1 in
      waiting-outside it.0.place (all-in (λ (o : Object). is_in_image o.place ≡ true) p.graph.objects it.0 it.1 (k.heap.formed.before_seal unsealed)) inner.0

  none-noted : (d : Card) → has_noted s d ≡ false
  none-noted (card.Image j) = (k.cards.before_seal unsealed).0 (card_number (card.Image j))
  none-noted (card.Zygote j) = (k.cards.before_seal unsealed).1 (card_number (card.Zygote j))

  noted-same : (d : Card) → has_noted next d ≡ has_noted s d
  noted-same (card.Image j) = refl
  noted-same (card.Zygote j) = refl

  cards : NotesCards next after
  cards = record {
    image = k.cards.image;
    zygote = k.cards.zygote;
    noted = λ d has. absurd (true≢false (sym has ∙ noted-same d ∙ none-noted d));
    outward = all-immune (λ d. has_noted next d ≡ true) (record p.graph { sealed = true })
        (all-weaken (λ (o : Object). is_in_image o.place ≡ true) (λ (o : Object). is_immune true o.place ≡ true) (λ o e. image-immune o.place e) p.graph.objects (k.heap.formed.before_seal unsealed));
    before_seal = λ still. absurd (true≢false still);
  }

  stands-sealed : StandsIn next now after
  stands-sealed = record {
    lives = k.lives;
    part = part;
    outward = subst (λ b. TouchesOutward (seal_if b p).part) unsealed (act_touches p verb.Seal tt k.part k.outward);
    within = subst (λ b. NotesWithin (seal_if b p).part) unsealed (act_notes p k.part k.within verb.Seal tt);
    counts = record { names = k.counts.names; next = k.counts.next; numbered = k.counts.numbered; budget = k.counts.budget; is_sealed = refl; dumps = k.counts.dumps; objects = k.counts.objects; promoted = k.counts.promoted };
    heap = heap;
    flags = record { touched = λ a seal stands. flag-settled was now s.page_table is _; waiting = λ a waiting. absurd (none-waits a waiting) };
    cards = cards;
    alone = λ q still. absurd (true≢false still);
    image_is = k.image_is;
    zygote_is = k.zygote_is;
    image = record { fill = k.image.fill; starts = k.image.starts };
    zygote = record { closed = k.zygote.closed; fill = k.zygote.fill; starts = k.zygote.starts };
  }

  acts-sealed : Acts (record { old = s; new = record s { sealed = true }; was = was; now = now }) p (seal_if false p)
  acts-sealed = record {
    stands = stands-sealed;
    page_table = refl;
    only = only-settled was now s.page_table is k.heap.live;
    kept = λ a named quiet. frame-settled was now s.page_table is s.page_table _;
    made = λ a named made. absurd (true≢false (sym made));
  }

pub seal-acts : (c : Step) (p : Part) → StandsIn c.old c.was p → p.graph.sealed ≡ false → c.new ≡ record c.old { sealed = true } → Settles c.was c.now c.old.page_table → Acts c p (act p verb.Seal)
seal-acts c p k unsealed rest is =
    subst (λ b. Acts c p (seal_if b p)) (sym unsealed) (subst (λ n. Acts (record c { new = n }) p (seal_if false p)) (sym rest) (acts-sealed c.old c.was c.now p k unsealed is))
