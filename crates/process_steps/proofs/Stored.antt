-- A process that stored into an object: it stands for its part with the slot stored, and pages keep their frames.
use Rattle.std.proofs.Common.{◌≡◌, ◌≢◌, ◌∙◌, ℕ, ◌+◌, ◌≤◌, Bool, true, false, cond, List, [], ◌∷◌, ◌++◌, length, nat_eq, option_map, refl, sym, ap, subst, inl, inr, arith, true≢false}
use Rattle.std.specs.Prelude.{◌&&◌, ◌||◌}
use Rattle.std.specs.List.{AllByRecursion}
use Rattle.std.proofs.lemmas.Bool.{and_from, and_parts, cases_Bool, cases_eq, eq-eqb, false_from_ne_true, ne_eqb, or_cases, or_left, or_right}
use Rattle.model_numbers.specs.Numbers.{image_base, zygote_base}
use Rattle.card_table.specs.CardSet.{card_of}
use Rattle.class_layout.specs.declared.kind.FieldAt.{FieldAt}
use Rattle.class_layout.specs.Kinds.{is_ref}
use Rattle.class_layout.specs.Placing.{IsIn}
use Rattle.page_tables.specs.declared.address.Window.TheVariants as window
use Rattle.page_tables.specs.Address.{is_in, page_of}
use Rattle.cow_pages.specs.Memory.{flag_of, frame_at, is_written, page_at, HasOneSharer, Memory, Page}
use Rattle.heap_graph.specs.declared.names.Content.{Content}
use Rattle.heap_graph.specs.declared.names.Content.TheVariants as content
use Rattle.heap_graph.specs.declared.names.Stored.{Stored}
use Rattle.heap_graph.specs.Formed.{FitsKind, IsFormed}
use Rattle.heap_graph.specs.Graph.{is_immune, Graph, Object}
use Rattle.heap_graph.specs.Values.{value_at, with_stored}
use Rattle.heap_graph.proofs.Places.{slot-place, value-fits}
use Rattle.heap_world.specs.declared.names.Card.{Card}
use Rattle.heap_world.specs.declared.names.Card.TheVariants as card
use Rattle.heap_world.specs.declared.names.PageName.{PageName}
use Rattle.heap_world.specs.Acts.{first_if, first_touch, store, store_effect, stored_cards_if, stored_in_if, with_slot}
use Rattle.heap_world.specs.Cards.{add_cards, cards_in, is_card_among, is_outward, outward_cards}
use Rattle.heap_world.specs.Cards as world
use Rattle.heap_world.specs.Pages.{is_touched, page_in, same_page}
use Rattle.heap_world.specs.Part.{Part}
use Rattle.heap_world.proofs.Bounds.{page-refl}
use Rattle.heap_world.proofs.Bounds as bounds
use Rattle.heap_world.proofs.Noted.{has-cards, outward-stored, stays-cards}
use Rattle.world_laws.specs.Named.{is_named, stands, waits}
use Rattle.world_laws.proofs.OutwardPages.{touch_has}
use Rattle.world_laws.proofs.StandingLists.{named_both}
use Rattle.mod_union.specs.ModUnion.{is_noted}
use Rattle.raw_objects.specs.Keeps.{Keeps}
use Rattle.raw_objects.proofs.Kept.{one-table}
use Rattle.address_table.specs.Computed.{Homes}
use Rattle.graph_pages.specs.Pages.{page_named}
use Rattle.graph_pages.proofs.Lists.{map-in}
use Rattle.graph_pages.proofs.Named.{names-differ, names-mapped}
use Rattle.graph_pages.proofs.Stored.{value_at-stored}
use Rattle.evacuate.specs.Stands.{homes_in, HoldsHeap}
use Rattle.evacuate.proofs.Pages.{in-window}
use Rattle.zygote_compact.specs.Spots.{is_spot, HasSpots}
use Rattle.process_state.specs.Acts.{Acts, Step}
use Rattle.process_state.specs.Cards.{has_noted, NotesCards, NotesNothing}
use Rattle.process_state.specs.Stands.{is_image_spot, HasCounts, HasFlags, HasImage, StandsIn}
use Rattle.process_state.specs.State.{addresses_in, heap_of, Notes, State}
use Rattle.process_state.proofs.Pages.{apart-window}
use Rattle.process_steps.specs.Kept.{IsKept}
use Rattle.process_steps.specs.Storing.{IsStore}
use Rattle.process_steps.proofs.StoredNotes.{alone-mapped, noted-from, noted-now, noted-stays}
use Rattle.process_steps.proofs.StoredPlace.{each-card, found-at, image-card, image-immune, immune-sealed, loose-page, named-page, unsealed-page, zygote-card, zygote-immune, NamedPage}
use Rattle.process_steps.proofs.StoredSame.{any-stored, did-wait, page-same, same-fills, same-house, same-length, same-promoted, same-stands, same-state, same-table, was-named}

module _ (s : State) (image zygote : Notes) (was now : Memory) (p : Part) (o : Object) (at : FieldAt) (v : Content) (k : StandsIn s was p) where
  abbrev next : State
  next = record s { image_notes = image; zygote_notes = zygote }

  abbrev step : Step
  step = record { old = s; new = record s { image_notes = image; zygote_notes = zygote }; was = was; now = now }

  abbrev g : Graph
  g = p.graph

  abbrev slot : Stored
  slot = record { at = at; value = v }

  abbrev left : Graph
  left = with_slot p.graph o.number (record { at = at; value = v })

  abbrev t : ℕ
  t = s.page_table

  abbrev homes : Homes
  homes = homes_in s.regions.in_use s.rows

  abbrev table : ℕ → ℕ
  table = addresses_in s p.graph

  -- the address of the slot, and its page
  abbrev spot : ℕ
  spot = addresses_in s p.graph o.number + at.offset

  abbrev page : ℕ
  page = page_of (addresses_in s p.graph o.number + at.offset)

  -- a page name is that of the slot's page
  abbrev OnSlot : PageName → Type 0
  OnSlot a = page_named (addresses_in s p.graph) a ≡ page_of (addresses_in s p.graph o.number + at.offset)

  formed : IsFormed p.graph
  formed = k.heap.formed

  module _ (is : IsStore step p o at v) where
    -- pages were kept but for that of the slot
    keeps : Keeps was now t (nat_eq page)
    keeps = is.keeps (nat_eq page) (eq-eqb page page refl)

    -- every other page is as it was
    other : (q : ℕ) → q ≢ page → page_at now t q ≡ page_at was t q
    other q ne = keeps.others t q (inr (ne_eqb page q (λ e. ne (sym e))))

    -- a page that had its frame alone keeps it alone
    alone-stays : (q : ℕ) → HasOneSharer was t q → HasOneSharer now t q
    alone-stays q one = keeps.alone q (alone-mapped was t q k.heap.sound one) one

    -- what the process keeps for the graph is as before
    heap-stored : IsFormed left → HoldsHeap (heap_of s []) now t left
    heap-stored after = record {
      formed = after;
      house = same-house g o.number slot homes k.heap.house;
      pages = is.pages;
      stands = same-state g o.number slot s k.heap.stands;
      regions = λ q e. alone-stays q (k.heap.regions q e);
      large = λ q e. alone-stays q (k.heap.large q e);
      space = k.heap.space;
      sound = is.sound;
      live = keeps.live t ∙ k.heap.live;
    }

    counts-stored : HasCounts next left
    counts-stored = record {
      names = k.counts.names;
      next = k.counts.next;
      numbered = k.counts.numbered;
      budget = k.counts.budget;
      is_sealed = k.counts.is_sealed;
      dumps = k.counts.dumps;
      objects = k.counts.objects ∙ sym (same-length g o.number slot);
      promoted = k.counts.promoted ∙ ap length (sym (same-promoted g o.number slot));
    }

    image-stored : HasImage s.image left
    image-stored = record {
      fill = k.image.fill ∙ sym (same-fills g o.number slot formed).0;
      starts = λ q. k.image.starts q ∙ sym (any-stored o.number slot (is_image_spot q) g.objects);
    }

    zygote-stored : HasSpots s.zygote left
    zygote-stored = record {
      closed = k.zygote.closed;
      fill = k.zygote.fill ∙ sym (same-fills g o.number slot formed).1;
      starts = λ q. k.zygote.starts q ∙ sym (any-stored o.number slot (is_spot q) g.objects);
    }

    -- PAGES

    -- a named page is the one that it was
    page-is : (a : PageName) → page_named (addresses_in s left) a ≡ page_named table a
    page-is a = page-same table (addresses_in s left) (same-table g o.number slot homes) a

    -- the slot's page was written
    written-there : is_written now t page ≡ true
    written-there = is.written page (omega arith) (omega arith)

    -- the slot's page is touched where it stands, and no other page is touched first
    record Touches (touched : List PageName) : Type 0 where
      pub hit : (a : PageName) → p.graph.sealed ≡ true → stands p.graph a ≡ true → OnSlot a → is_touched touched a ≡ true
      pub miss : (a : PageName) → p.graph.sealed ≡ true → stands p.graph a ≡ true → (OnSlot a → ⊥) → is_touched touched a ≡ is_touched p.touched a

    -- so flags are those of touched pages
    flags-stored : (touched : List PageName) (stored : List Card) → Touches touched → HasFlags next now (record p { graph = left; touched = touched; stored = stored })
    flags-stored touched stored touches = record {
      touched = λ a sealed standing. ap (is_written now t) (page-is a) ∙ flag a sealed (sym (same-stands g o.number slot formed a) ∙ standing);
      waiting = λ a waiting. ap (is_written now t) (page-is a) ∙ keeps.written (page_named table a) (k.flags.waiting a (did-wait g o.number slot formed a waiting));
    }
      where
        flag : (a : PageName) → p.graph.sealed ≡ true → stands p.graph a ≡ true → is_written now t (page_named table a) ≡ is_touched touched a
        flag a sealed standing = elim (cases_eq (page_named table a) page) [
          | inl e ↦ ap (is_written now t) e ∙ written-there ∙ sym (touches.hit a sealed standing e)
          | inr ne ↦ ap flag_of (other (page_named table a) ne) ∙ k.flags.touched a sealed standing ∙ sym (touches.miss a sealed standing ne)
        ]

    -- a named page keeps its frame where that of the slot has one alone
    frame-stays : (a : PageName) → is_named left a ≡ true → (is_named p.graph a ≡ true → OnSlot a → HasOneSharer was t page)
        → frame_at now t (page_named (addresses_in s left) a) ≡ frame_at was t (page_named table a)
    frame-stays a named one = ap (frame_at now t) (page-is a) ∙ by (was-named g o.number slot formed a named)
      where
        by : is_named p.graph a ≡ true → frame_at now t (page_named table a) ≡ frame_at was t (page_named table a)
        by before = elim (cases_eq (page_named table a) page) [
          | inl e ↦ keeps.frames (page_named table a) (names-mapped homes g formed k.heap.house was t a k.heap.pages before) (subst (λ q. HasOneSharer was t q) (sym e) (one before e))
          | inr ne ↦ ap (option_map (λ (it : Page). it.frame)) (other (page_named table a) ne)
        ]

    -- it has, where the page waits, isn't sealed, or is touched already
    sharer : (a : PageName) → is_named p.graph a ≡ true → OnSlot a
        → (p.graph.sealed ≡ true → stands p.graph a ≡ true → is_touched p.touched a ≡ false → ⊥) → HasOneSharer was t page
    sharer a named e touched = subst (λ q. HasOneSharer was t q) e (elim (or_cases (stands g a) (waits g a) (sym (named_both g a) ∙ named)) [
      | inr waiting ↦ k.heap.sound.written_alone t (page_named table a) (k.flags.waiting a waiting)
      | inl standing ↦ elim (cases_Bool g.sealed) [
        | inl sealed ↦ elim (cases_Bool (is_touched p.touched a)) [
          | inl there ↦ k.heap.sound.written_alone t (page_named table a) (k.flags.touched a sealed standing ∙ there)
          | inr untouched ↦ absurd (touched sealed standing untouched)
        ]
        | inr unsealed ↦ k.alone (page_named table a) unsealed (ap (is_in window.Image) e ∙ unsealed-page s was p k o at is.stands is.slot unsealed)
            (names-mapped homes g formed k.heap.house was t a k.heap.pages named)
      ]
    ])

    -- CARDS

    -- whether a card of the image, or of the zygote window, was made dirty
    abbrev may_image : Bool
    may_image = is_ref at.kind && (s.sealed && is_in window.Image page)

    abbrev may_zygote : Bool
    may_zygote = is_ref at.kind && is_in window.Zygote page

    -- where it was, a reference was stored in that window, for the image after the seal
    image-parts : may_image ≡ true → (is_ref at.kind ≡ true) × (p.graph.sealed ≡ true) × (is_in window.Image page ≡ true)
    image-parts dirties =
        let one = and_parts (is_ref at.kind) _ dirties in
        let two = and_parts s.sealed _ one.1 in
        (one.0, sym k.counts.is_sealed ∙ two.0, two.1)

    zygote-parts : may_zygote ≡ true → (is_ref at.kind ≡ true) × (is_in window.Zygote page ≡ true)
    zygote-parts dirties = and_parts (is_ref at.kind) (is_in window.Zygote page) dirties

    -- a place that holds what isn't immune is a reference
    outward-ref : IsFormed left → is_outward p.graph v ≡ true → is_ref at.kind ≡ true
    outward-ref after = by v fits
      where
        after-in : IsIn (record o { slots = with_stored o.slots slot }) left.objects
        after-in =
            subst (λ b. IsIn (stored_in_if b o slot) left.objects) (eq-eqb o.number o.number refl)
            (map-in (λ (x : Object). stored_in_if (nat_eq x.number o.number) x slot) g.objects o is.stands)

        value : value_at (with_stored o.slots slot) at ≡ v
        value = value_at-stored o.slots slot at ∙ ap (λ b. cond b v (value_at o.slots at)) (eq-eqb at.offset at.offset refl)

        fits : FitsKind at.kind v
        fits = subst (FitsKind at.kind) value (value-fits left (record o { slots = with_stored o.slots slot }) at after after-in (slot-place g.classes o.shape at is.slot))

        by : (v : Content) → FitsKind at.kind v → is_outward p.graph v ≡ true → is_ref at.kind ≡ true
        by (content.Number z) fit out = absurd (true≢false (sym out))
        by content.Null fit out = fit
        by (content.Object n) fit out = fit

    -- what was noted stays so
    noted-more : (d : Card) → has_noted s d ≡ true → has_noted next d ≡ true
    noted-more (card.Image j) has = noted-stays may_image s.image_notes image (card_of spot) is.image_notes (card_of image_base + j) has
    noted-more (card.Zygote j) has = noted-stays may_zygote s.zygote_notes zygote (card_of spot) is.zygote_notes (card_of zygote_base + j) has

    -- each card with an outward slot is noted: it had one before, or it is that of the slot
    outward : IsFormed left → AllByRecursion (λ d. has_noted next d ≡ true) (outward_cards left)
    outward after =
        outward-stored (λ d. has_noted s d ≡ true) (λ d. has_noted next d ≡ true) noted-more g o.number slot o formed.numbers (found-at g o formed is.stands)
        (λ immune out.
        let ref : is_ref at.kind ≡ true = outward-ref after out in
        let sealed : s.sealed ≡ true = k.counts.is_sealed ∙ immune-sealed s was p k o at is.stands is.slot immune in
        each-card s was p k o at is.stands is.slot (λ d. has_noted next d ≡ true)
        (λ j inside e. noted-now may_image s.image_notes image (card_of spot) is.image_notes (and_from _ _ ref (and_from _ _ sealed inside)) (card_of image_base + j) e)
        (λ j inside e. noted-now may_zygote s.zygote_notes zygote (card_of spot) is.zygote_notes (and_from _ _ ref inside) (card_of zygote_base + j) e))
        k.cards.outward

    -- before the seal none was made dirty
    nothing : p.graph.sealed ≡ false → NotesNothing image × NotesNothing zygote
    nothing unsealed = (
      subst NotesNothing (sym (is.image_notes.not (false_from_ne_true may_image (λ dirties. true≢false (sym (image-parts dirties).1 ∙ unsealed))))) (k.cards.before_seal unsealed).0,
      subst NotesNothing (sym (is.zygote_notes.not (false_from_ne_true may_zygote (λ dirties. true≢false (sym (zygote-parts dirties).1 ∙ off))))) (k.cards.before_seal unsealed).1,
    )
      where
        off : is_in window.Zygote page ≡ false
        off = apart-window window.Image window.Zygote page (λ e. cc) (unsealed-page s was p k o at is.stands is.slot unsealed)

    -- the stored cards have those that were noted, and that of the slot
    record Stores (stored : List Card) : Type 0 where
      pub more : (d : Card) → world.is_noted p.stored p.held d ≡ true → world.is_noted stored p.held d ≡ true
      pub in_image : may_image ≡ true → (j : ℕ) → card_of image_base + j ≡ card_of spot → world.is_noted stored p.held (card.Image j) ≡ true
      pub in_zygote : may_zygote ≡ true → (j : ℕ) → card_of zygote_base + j ≡ card_of spot → world.is_noted stored p.held (card.Zygote j) ≡ true

    -- so the cards that the process knows of are those of the part
    cards-stored : IsFormed left → (touched : List PageName) (stored : List Card) → Stores stored → NotesCards next (record p { graph = left; touched = touched; stored = stored })
    cards-stored after touched stored stores = record {
      image = record { start = is.image_notes.start ∙ k.cards.image.start; span = is.image_notes.span ∙ k.cards.image.span; behind = image-behind };
      zygote = record { start = is.zygote_notes.start ∙ k.cards.zygote.start; span = is.zygote_notes.span ∙ k.cards.zygote.span; behind = zygote-behind };
      noted = noted;
      outward = outward after;
      before_seal = nothing;
    }
      where
        image-behind : (j : ℕ) → is_noted image.records image.cards j ≡ true → card_of image_base ≤ j
        image-behind j has = elim (noted-from may_image s.image_notes image (card_of spot) is.image_notes j has) [
          | inl it ↦ (let low = (in-window window.Image page (image-parts it.0).2).low in omega (arith, low, it.1))
          | inr before ↦ k.cards.image.behind j before
        ]

        zygote-behind : (j : ℕ) → is_noted zygote.records zygote.cards j ≡ true → card_of zygote_base ≤ j
        zygote-behind j has = elim (noted-from may_zygote s.zygote_notes zygote (card_of spot) is.zygote_notes j has) [
          | inl it ↦ (let low = (in-window window.Zygote page (zygote-parts it.0).1).low in omega (arith, low, it.1))
          | inr before ↦ k.cards.zygote.behind j before
        ]

        noted : (d : Card) → has_noted next d ≡ true → world.is_noted stored p.held d ≡ true
        noted (card.Image j) has = elim (noted-from may_image s.image_notes image (card_of spot) is.image_notes (card_of image_base + j) has) [
          | inl it ↦ stores.in_image it.0 j it.1
          | inr before ↦ stores.more (card.Image j) (k.cards.noted (card.Image j) before)
        ]
        noted (card.Zygote j) has = elim (noted-from may_zygote s.zygote_notes zygote (card_of spot) is.zygote_notes (card_of zygote_base + j) has) [
          | inl it ↦ stores.in_zygote it.0 j it.1
          | inr before ↦ stores.more (card.Zygote j) (k.cards.noted (card.Zygote j) before)
        ]

    -- THE WHOLE

    -- it stands for the part after the store
    stands-stored : (touched : List PageName) (stored : List Card) → IsKept (record p { graph = left; touched = touched; stored = stored }) → Touches touched → Stores stored
        → StandsIn next now (record p { graph = left; touched = touched; stored = stored })
    stands-stored touched stored kept touches stores = record {
      lives = k.lives;
      part = kept.part;
      outward = kept.outward;
      within = kept.within;
      counts = counts-stored;
      heap = heap-stored kept.part.formed;
      flags = flags-stored touched stored touches;
      cards = cards-stored kept.part.formed touched stored stores;
      alone = λ q unsealed inside mapped. alone-stays q (k.alone q unsealed inside (sym (keeps.mapped q) ∙ mapped));
      image_is = k.image_is;
      zygote_is = k.zygote_is;
      image = image-stored;
      zygote = zygote-stored;
    }

    -- into an object that isn't immune
    acts-loose : is_immune p.graph.sealed o.place ≡ false → IsKept (store_effect false p left o at).part → Acts step p (store_effect false p left o at)
    acts-loose loose kept = record {
      stands = stands-stored p.touched p.stored kept
          (record { hit = λ a sealed standing e. absurd (none a sealed standing e); miss = λ a sealed standing ne. refl })
          (record {
            more = λ d has. has;
            in_image = λ dirties j e. absurd (true≢false (sym (image-immune s was p k o at is.stands is.slot (image-parts dirties).1 (image-parts dirties).2) ∙ loose));
            in_zygote = λ dirties j e. absurd (true≢false (sym (zygote-immune s was p k o at is.stands is.slot (zygote-parts dirties).1) ∙ loose));
          });
      page_table = refl;
      only = one-table was now t (nat_eq page) keeps;
      kept = λ a named quiet. frame-stays a named (λ before e. sharer a before e (λ sealed standing untouched. none a sealed standing e));
      made = λ a named made. absurd (true≢false (sym made));
    }
      where
        none : (a : PageName) → p.graph.sealed ≡ true → stands p.graph a ≡ true → OnSlot a → ⊥
        none a sealed standing e = loose-page s was p k o at is.stands is.slot sealed loose a standing e

    -- into an immune object, whose page is touched, and its card noted where a reference was stored
    module _ (immune : is_immune p.graph.sealed o.place ≡ true) where
      abbrev first : List PageName
      first = first_touch p.touched (page_in o o.place at.offset)

      abbrev cards : List Card
      cards = stored_cards_if (is_ref at.kind) (cards_in o.place at.offset)

      -- the page on which the slot lies
      the-page : NamedPage s was p k o at is.stands is.slot
      the-page = named-page s was p k o at is.stands is.slot immune

      -- the name of the slot's page is its alone
      is-page : (a : PageName) → stands p.graph a ≡ true → OnSlot a → a ≡ the-page.name
      is-page a standing e =
          names-differ homes g formed k.heap.house a the-page.name (named_both g a ∙ or_left (stands g a) (waits g a) standing)
          (named_both g the-page.name ∙ or_left (stands g the-page.name) (waits g the-page.name) the-page.standing) (e ∙ sym the-page.at_is)

      missed : (b : Bool) (n a : PageName) → (a ≢ n) → is_touched (first_if b n ++ p.touched) a ≡ is_touched p.touched a
      missed true n a ne = refl
      missed false n a ne = ap (λ b. b || is_touched p.touched a) (false_from_ne_true (same_page a n) (λ e. ne (bounds.page-same a n e)))

      -- it is touched now, and no other page
      touches : Touches (first ++ p.touched)
      touches = record {
        hit = λ a sealed standing e.
            subst (λ b. is_touched (first ++ p.touched) b ≡ true) (sym (is-page a standing e))
            (subst (λ q. is_touched (first_touch p.touched q ++ p.touched) the-page.name ≡ true) (sym the-page.page) (touch_has p.touched the-page.name));
        miss = λ a sealed standing ne.
            subst (λ q. is_touched (first_touch p.touched q ++ p.touched) a ≡ is_touched p.touched a) (sym the-page.page)
            (missed (is_touched p.touched the-page.name) the-page.name a (λ e. ne (ap (page_named table) e ∙ the-page.at_is)));
      }

      -- where it was untouched it is touched first
      touched-first : (a : PageName) → stands p.graph a ≡ true → OnSlot a
          → is_touched p.touched a ≡ false → is_touched first a ≡ true
      touched-first a standing e untouched =
          let same : a ≡ the-page.name = is-page a standing e in
          let none : is_touched p.touched the-page.name ≡ false = ap (is_touched p.touched) (sym same) ∙ untouched in
          subst (λ b. is_touched first b ≡ true) (sym same)
          (subst (λ q. is_touched (first_touch p.touched q) the-page.name ≡ true) (sym the-page.page)
          (subst (λ b. is_touched (first_if b the-page.name) the-page.name ≡ true) (sym none) (or_left (same_page the-page.name the-page.name) false (page-refl the-page.name))))

      -- the slot's card is stored
      card-stored : (d : Card) → is_ref at.kind ≡ true → cards_in o.place at.offset ≡ d ∷ [] → world.is_noted (add_cards cards p.stored) p.held d ≡ true
      card-stored d ref one =
          or_left (is_card_among (add_cards cards p.stored) d) (is_card_among p.held d)
          (subst (λ b. is_card_among (add_cards (stored_cards_if b (cards_in o.place at.offset)) p.stored) d ≡ true) (sym ref)
          (subst (λ ds. AllByRecursion (λ c. is_card_among (add_cards (cards_in o.place at.offset) p.stored) c ≡ true) ds) one (has-cards (cards_in o.place at.offset) p.stored)).0)

      -- the stored cards have it
      stores : Stores (add_cards cards p.stored)
      stores = record {
        more = λ d has. elim (or_cases (is_card_among p.stored d) (is_card_among p.held d) has) [
          | inl there ↦ or_left (is_card_among (add_cards cards p.stored) d) (is_card_among p.held d) (stays-cards cards d p.stored there)
          | inr kept ↦ or_right (is_card_among (add_cards cards p.stored) d) (is_card_among p.held d) kept
        ];
        in_image = λ dirties j e.
            let it = image-card s was p k o at is.stands is.slot (image-parts dirties).2 in
            let same : it.0 ≡ j = omega (arith, it.2, e) in
            card-stored (card.Image j) (image-parts dirties).0 (it.1 ∙ ap (λ i. card.Image i ∷ []) same);
        in_zygote = λ dirties j e.
            let it = zygote-card s was p k o at is.stands is.slot (zygote-parts dirties).1 in
            let same : it.0 ≡ j = omega (arith, it.2, e) in
            card-stored (card.Zygote j) (zygote-parts dirties).0 (it.1 ∙ ap (λ i. card.Zygote i ∷ []) same);
      }

      acts-immune : IsKept (store_effect true p left o at).part → Acts step p (store_effect true p left o at)
      acts-immune kept = record {
        stands = stands-stored (first ++ p.touched) (add_cards cards p.stored) kept touches stores;
        page_table = refl;
        only = one-table was now t (nat_eq page) keeps;
        kept = λ a named quiet. frame-stays a named (λ before e. sharer a before e (λ sealed standing untouched. true≢false (sym (touched-first a standing e untouched) ∙ quiet)));
        made = λ a named made. absurd (true≢false (sym made));
      }

    acts-stored : IsKept (store p o at v).part → Acts step p (store p o at v)
    acts-stored = by (is_immune p.graph.sealed o.place) refl
      where
        by : (b : Bool) → is_immune p.graph.sealed o.place ≡ b → IsKept (store_effect b p left o at).part → Acts step p (store_effect b p left o at)
        by true immune = acts-immune immune
        by false loose = acts-loose loose

pub stored-acts : (c : Step) (p : Part) (o : Object) (at : FieldAt) (v : Content) → StandsIn c.old c.was p → IsKept (store p o at v).part → IsStore c p o at v → Acts c p (store p o at v)
stored-acts c p o at v k kept is =
    subst (λ n. IsStore (record c { new = n }) p o at v → Acts (record c { new = n }) p (store p o at v)) (sym is.rest)
    (λ stores. acts-stored c.old c.new.image_notes c.new.zygote_notes c.was c.now p o at v k stores kept) is
