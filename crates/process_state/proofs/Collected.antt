-- A process that is collected: it stands for its part with the collected graph, and pages keep their frames.
use Rattle.std.proofs.Common.{◌≡◌, ◌∙◌, ◌⊎◌, ℕ, ◌+◌, ◌≤◌, Bool, true, false, List, [], Option, None, Some, filter, length, nat_eq, is_some, option_map, refl, sym, ap, subst, inl, inr, arith, true≢false}
use Rattle.std.specs.Prelude.{IsTrue}
use Rattle.std.specs.List.{list_any}
use Rattle.std.proofs.lemmas.Bool.{and_from, and_parts, cases_Bool, eqb-true, or_cases, or_from, or_left}
use Rattle.model_numbers.specs.Numbers.{image_length, zygote_length}
use Rattle.card_table.specs.CardSet.{card_of}
use Rattle.page_tables.specs.declared.address.Window.TheVariants as window
use Rattle.page_tables.specs.Address.{is_in, page_of}
use Rattle.cow_pages.specs.Memory.{flag_of, frame_at, is_mapped, is_written, Memory, Page}
use Rattle.heap_graph.specs.declared.names.Place.{Place}
use Rattle.heap_graph.specs.declared.names.Place.TheVariants as place
use Rattle.heap_graph.specs.Collection.{cleared, collect, is_kept}
use Rattle.heap_graph.specs.Formed.{IsFormed}
use Rattle.heap_graph.specs.Graph.{image_fill, is_immune, zygote_fill, Graph, Object}
use Rattle.heap_graph.specs.Paths.{numbers}
use Rattle.heap_graph.specs.Reach.{is_among, reached}
use Rattle.heap_graph.proofs.LaidOut.{all-weaken}
use Rattle.heap_world.specs.declared.command.Verb.TheVariants as verb
use Rattle.heap_world.specs.declared.names.Card.{Card}
use Rattle.heap_world.specs.declared.names.Card.TheVariants as card
use Rattle.heap_world.specs.declared.names.PageName.{PageName}
use Rattle.heap_world.specs.declared.names.PageName.TheVariants.{Image, Zygote, Large}
use Rattle.heap_world.specs.Acts.{gc_if, gc_to}
use Rattle.heap_world.specs.Cards.{held_cards, is_card_among, outward_cards}
use Rattle.heap_world.specs.Pages.{is_touched, promoted_pages}
use Rattle.heap_world.specs.Part.{with_collected, Part}
use Rattle.heap_world.specs.Sound.{IsSound}
use Rattle.heap_world.proofs.FormedKept.{loose-dropped}
use Rattle.heap_world.proofs.Noted.{outward-collected}
use Rattle.heap_world.proofs.PlacedFilter.{pages-filter}
use Rattle.heap_world.proofs.PlacedSame.{all_pages-same, cleared-same}
use Rattle.heap_world.proofs.SoundActs.{act_sound}
use Rattle.heap_world.proofs.SoundParts.{standing-collect}
use Rattle.world_laws.specs.Named.{has_page, has_slot, is_named, is_paged, is_promoted, is_waiting, stands, waits}
use Rattle.world_laws.specs.Outward.{is_card_of, NotesWithin, TouchesOutward}
use Rattle.world_laws.proofs.Named.{fills-collect, waiting-collect}
use Rattle.world_laws.proofs.NotedCards.{act_notes}
use Rattle.world_laws.proofs.OutwardPages.{act_touches}
use Rattle.world_laws.proofs.StandingLists.{standing_lists}
use Rattle.object_view.specs.declared.names.Slot.{Slot}
use Rattle.region_space.specs.Space.{Space}
use Rattle.large_objects.specs.declared.rows.LargeRow.{LargeRow}
use Rattle.large_objects.specs.Pages.{holds_page}
use Rattle.large_objects.specs.Rows as large
use Rattle.graph_pages.specs.Pages.{page_named}
use Rattle.graph_pages.proofs.Lists.{any-from, any-to, filter-in, in-filter, in-map, map-in}
use Rattle.evacuate.proofs.Left.{same-bool}
use Rattle.evacuate.proofs.Members.{in-contains}
use Rattle.evacuate.proofs.Rows.{row-address}
use Rattle.root_list.specs.declared.root.RootAt.{RootAt}
use Rattle.zygote_compact.proofs.Spots.{collected-spots}
use Rattle.process_state.specs.Acts.{Acts, Step}
use Rattle.process_state.specs.Cards.{card_number, has_noted, NotesCards}
use Rattle.process_state.specs.Collections.{IsCollection}
use Rattle.process_state.specs.Stands.{is_image_spot, HasFlags, StandsIn}
use Rattle.process_state.specs.State.{addresses_in, heap_of, State}
use Rattle.process_state.proofs.Counted.{card-has}
use Rattle.process_state.proofs.Leading.{slot-held, slot-written}
use Rattle.process_state.proofs.Pages.{named-beside, promoted-slot, row-of-page, slot-mapped, stands-apart, waiting-slot}

written-mapped : (o : Option Page) → flag_of o ≡ true → is_some o ≡ true
written-mapped None is = absurd (true≢false (sym is))
written-mapped (Some page) is = refl

no-frame : (o : Option Page) → is_some o ≡ false → option_map (λ (page : Page). page.frame) o ≡ None
no-frame None is = refl
no-frame (Some page) is = absurd (true≢false is)

-- GRAPHS

-- what has a page in some places has it in more
more-places : (S T : Place → Bool) → ((at : Place) → S at ≡ true → T at ≡ true) → (g : Graph) (n k : ℕ) → is_paged S g.classes g.objects n k ≡ true → is_paged T g.classes g.objects n k ≡ true
more-places S T more g n k is =
    let it = any-from (has_page S g.classes n k) g.objects is in
    let o : Object = it.0 in
    let parts = and_parts (nat_eq o.number n) _ it.2 in
    let inner = and_parts (S o.place) _ parts.1 in
    any-to (has_page T g.classes n k) g.objects o it.1 (and_from (nat_eq o.number n) _ parts.0 (and_from (T o.place) _ (more o.place inner.0) inner.1))

named-stands : (g : Graph) (a : PageName) → stands g a ≡ true → is_named g a ≡ true
named-stands g (Image k) is = is
named-stands g (Zygote k) is = is
named-stands g (Large n k) is = more-places is_promoted has_slot promoted-slot g n k is

image-immune : (q : ℕ) (at : Place) → is_image_spot q at ≡ true → is_immune true at ≡ true
image-immune q (place.Image spot) e = refl
image-immune q (place.Zygote spot) e = refl
image-immune q place.Young e = absurd (true≢false (sym e))
image-immune q place.Large e = absurd (true≢false (sym e))
image-immune q place.Promoted e = refl

module _ (g : Graph) (sealed : g.sealed ≡ true) (formed : IsFormed g) where
  abbrev keep : Object → Bool
  keep = is_kept g.sealed (reached g)

  abbrev kept : List ℕ
  kept = numbers (filter (is_kept g.sealed (reached g)) g.objects)

  -- the spots of the image stay
  spots-kept : (q : ℕ) → list_any (λ (o : Object). is_image_spot q o.place) g.objects ≡ list_any (λ (o : Object). is_image_spot q o.place) (collect g).objects
  spots-kept q = same-bool _ _
      (λ e.
      let it = any-from (λ (o : Object). is_image_spot q o.place) g.objects e in
      let o : Object = it.0 in
      let stays : keep o ≡ true = or_left (is_immune g.sealed o.place) (is_among (reached g) o.number) (ap (λ b. is_immune b o.place) sealed ∙ image-immune q o.place it.2) in
      any-to (λ (o : Object). is_image_spot q o.place) (collect g).objects (cleared kept o) (map-in (cleared kept) (filter keep g.objects) o (filter-in keep g.objects o it.1 stays)) it.2)
      (λ e.
      let it = any-from (λ (o : Object). is_image_spot q o.place) (collect g).objects e in
      let from = in-map (cleared kept) (filter keep g.objects) it.0 it.1 in
      any-to (λ (o : Object). is_image_spot q o.place) g.objects from.0 (in-filter keep g.objects from.0 from.1).0 (ap (λ (o : Object). is_image_spot q o.place) from.2 ∙ it.2))

  promoted-kept : promoted_pages (collect g) ≡ promoted_pages g
  promoted-kept =
      all_pages-same g.classes g.classes (filter keep g.objects) (collect g).objects (cleared-same g.classes kept (filter keep g.objects))
      ∙ pages-filter g.classes keep (loose-dropped g sealed) g.objects

  -- the same pages stand, and those that wait did so
  stands-kept : (a : PageName) → stands (collect g) a ≡ stands g a
  stands-kept a = sym (standing_lists (collect g) a) ∙ ap (λ ps. is_touched ps a) (standing-collect g sealed formed) ∙ standing_lists g a

  waited : (a : PageName) → waits (collect g) a ≡ true → waits g a ≡ true
  waited (Image k) is = is
  waited (Zygote k) is = is
  waited (Large n k) is = elim (waiting-collect g sealed formed (Large n k) is) [ inl was ↦ was | inr none ↦ absurd (true≢false (sym none)) ]

-- A PROCESS

module _ (s : State) (roots : List RootAt) (objects : ℕ) (rows : List LargeRow) (regions : Space) (was now : Memory) (p : Part) (slots : List Slot) (k : StandsIn s was p) (sealed : p.graph.sealed ≡ true) where
  abbrev next : State
  next = record s { roots = roots; objects = objects; rows = rows; regions = regions }

  abbrev step : Step
  step = record { old = s; new = record s { roots = roots; objects = objects; rows = rows; regions = regions }; was = was; now = now }

  abbrev g : Graph
  g = p.graph

  abbrev left : Graph
  left = collect p.graph

  abbrev t : ℕ
  t = s.page_table

  formed : IsFormed p.graph
  formed = k.heap.formed

  module _ (c : IsCollection step p slots) where
    fills : (image_fill left ≡ image_fill g) × (zygote_fill left ≡ zygote_fill g)
    fills = fills-collect g sealed formed

    image-fits : image_fill left ≤ image_length
    image-fits = omega (arith, fills.0, k.image.fill, k.image_is.bounded)

    zygote-fits : zygote_fill left ≤ zygote_length
    zygote-fits = omega (arith, fills.1, k.zygote.fill, k.zygote_is.bounded)

    -- PAGES

    abbrev old-page : PageName → ℕ
    old-page a = page_named (addresses_in s p.graph) a

    abbrev new-page : PageName → ℕ
    new-page a = page_named (addresses_in next (collect p.graph)) a

    -- a named page is the one that it was
    same-page : (a : PageName) → is_named left a ≡ true → new-page a ≡ old-page a
    same-page (Image j) is = refl
    same-page (Zygote j) is = refl
    same-page (Large n j) is =
        let it = row-of-page (heap_of next []) now t left c.heap has_slot (λ at e. e) n j is in
        let before = row-address (heap_of s []) g it.row formed k.heap.stands (c.rows it.row (in-contains rows it.row it.is_in)) in
        ap (λ x. page_of x + j) (it.address ∙ sym before ∙ ap (addresses_in s g) it.number)

    beside : (a : PageName) → is_named left a ≡ true → is_in window.Regions (old-page a) ≡ false
    beside a is = subst (λ q. is_in window.Regions q ≡ false) (same-page a is) (named-beside (heap_of next []) now t left c.heap image-fits zygote-fits a is)

    slot-stays : (n j : ℕ) → is_named left (Large n j) ≡ true → is_mapped now t (old-page (Large n j)) ≡ true
    slot-stays n j is = subst (λ q. is_mapped now t q ≡ true) (same-page (Large n j) is) (slot-mapped (heap_of next []) now t left c.heap n j is)

    apart : (a : PageName) → stands g a ≡ true → list_any (holds_page (old-page a)) (filter large.waits s.rows) ≡ false
    apart = stands-apart (heap_of s []) was t g k.heap (omega (arith, k.image.fill, k.image_is.bounded)) (omega (arith, k.zygote.fill, k.zygote_is.bounded))

    -- it keeps its frame, or it is mapped neither before nor after
    frame-stays : (a : PageName) → is_named left a ≡ true → frame_at now t (new-page a) ≡ frame_at was t (old-page a)
    frame-stays a is = ap (frame_at now t) (same-page a is) ∙ by a is
      where
        spot : (a : PageName) → is_named left a ≡ true → stands g a ≡ true → frame_at now t (old-page a) ≡ frame_at was t (old-page a)
        spot a is standing = elim (cases_Bool (is_mapped now t (old-page a))) [
          | inl mapped ↦ c.pages.frames (old-page a) (beside a is) mapped
          | inr none ↦ no-frame _ none ∙ sym (no-frame _ (sym (c.pages.mapped (old-page a) (beside a is) (apart a standing)) ∙ none))
        ]

        by : (a : PageName) → is_named left a ≡ true → frame_at now t (old-page a) ≡ frame_at was t (old-page a)
        by (Image j) is = spot (Image j) is (sym (stands-kept g sealed formed (Image j)) ∙ is)
        by (Zygote j) is = spot (Zygote j) is (sym (stands-kept g sealed formed (Zygote j)) ∙ is)
        by (Large n j) is = c.pages.frames (old-page (Large n j)) (beside (Large n j) is) (slot-stays n j is)

    -- FLAGS

    flag-stays : (a : PageName) → stands left a ≡ true → is_written now t (old-page a) ≡ is_written was t (old-page a)
    flag-stays a is = by (cases_Bool (list_any (λ (slot : Slot). nat_eq (page_of slot.at.0) (old-page a)) slots))
      where
        off : is_in window.Regions (old-page a) ≡ false
        off = beside a (named-stands left a is)

        none : list_any (holds_page (old-page a)) (filter large.waits s.rows) ≡ false
        none = apart a (sym (stands-kept g sealed formed a) ∙ is)

        by : (list_any (λ (slot : Slot). nat_eq (page_of slot.at.0) (old-page a)) slots ≡ true) ⊎ (list_any (λ (slot : Slot). nat_eq (page_of slot.at.0) (old-page a)) slots ≡ false)
            → is_written now t (old-page a) ≡ is_written was t (old-page a)
        by (inr aside) = ap flag_of (c.pages.others t (old-page a) (inr (or_from _ _ (or_from _ _ off none) aside)))
        by (inl on) =
            let it = any-from (λ (slot : Slot). nat_eq (page_of slot.at.0) (old-page a)) slots on in
            let written : is_written was t (old-page a) ≡ true =
            ap (is_written was t) (sym (eqb-true (page_of it.0.at.0) (old-page a) it.2)) ∙ slot-written s was p k sealed slots it.0 ((c.keeps.out.exact it.0).0 it.1) in
            c.pages.written (old-page a) off (c.pages.mapped (old-page a) off none ∙ written-mapped _ written) written ∙ sym written

    waits-written : (a : PageName) → waits left a ≡ true → IsTrue (is_written now t (new-page a))
    waits-written (Image j) is = absurd (true≢false (sym is))
    waits-written (Zygote j) is = absurd (true≢false (sym is))
    waits-written (Large n j) is =
        let a : PageName = Large n j in
        let named : is_named left a ≡ true = more-places is_waiting has_slot waiting-slot left n j is in
        ap (is_written now t) (same-page a named) ∙ c.pages.written (old-page a) (beside a named) (slot-stays n j named) (k.flags.waiting a (waited g sealed formed a is))

    flags : HasFlags next now (with_collected p left)
    flags = record {
      touched = λ a seal is.
          ap (is_written now t) (same-page a (named-stands left a is)) ∙ flag-stays a is ∙ k.flags.touched a sealed (sym (stands-kept g sealed formed a) ∙ is);
      waiting = waits-written;
    }

    -- CARDS

    -- the notes are the same
    noted-same : (d : Card) → has_noted next d ≡ has_noted s d
    noted-same (card.Image j) = refl
    noted-same (card.Zygote j) = refl

    within : (d : Card) → has_noted s d ≡ true → is_card_of g d ≡ true
    within d has = elim (or_cases (is_card_among p.stored d) (is_card_among p.held d) (k.cards.noted d has)) [
      | inl here ↦ card-has (λ e. is_card_of g e ≡ true) p.stored d k.within.stored here
      | inr there ↦ card-has (λ e. is_card_of g e ≡ true) p.held d k.within.held there
    ]

    noted : (d : Card) → has_noted next d ≡ true → is_card_among (held_cards g) d ≡ true
    noted d is =
        let has : has_noted s d ≡ true = sym (noted-same d) ∙ is in
        let it = any-from (λ (slot : Slot). nat_eq (card_number d) (card_of slot.at.0)) slots (c.noted d has) in
        slot-held s was p k sealed slots it.0 ((c.keeps.out.exact it.0).0 it.1) d (within d has) (eqb-true (card_number d) (card_of it.0.at.0) it.2)

    cards : NotesCards next (with_collected p left)
    cards = record {
      image = k.cards.image;
      zygote = k.cards.zygote;
      noted = noted;
      outward = outward-collected (λ d. has_noted next d ≡ true) g
          (all-weaken (λ d. has_noted s d ≡ true) (λ d. has_noted next d ≡ true) (λ d has. noted-same d ∙ has) (outward_cards g) k.cards.outward);
      before_seal = λ unsealed. absurd (true≢false (sym sealed ∙ unsealed));
    }

    -- THE WHOLE

    stands-collected : StandsIn next now (with_collected p left)
    stands-collected = record {
      lives = k.lives;
      part = subst (λ b. IsSound (gc_if b p).part) sealed (act_sound p verb.Gc tt k.part);
      outward = subst (λ b. TouchesOutward (gc_if b p).part) sealed (act_touches p verb.Gc tt k.part k.outward);
      within = subst (λ b. NotesWithin (gc_if b p).part) sealed (act_notes p k.part k.within verb.Gc tt);
      counts = record {
        names = c.names ∙ k.counts.names;
        next = k.counts.next;
        numbered = k.counts.numbered;
        budget = k.counts.budget;
        is_sealed = k.counts.is_sealed;
        dumps = k.counts.dumps;
        objects = c.objects;
        promoted = k.counts.promoted ∙ ap length (sym (promoted-kept g sealed formed));
      };
      heap = c.heap;
      flags = flags;
      cards = cards;
      alone = λ q unsealed. absurd (true≢false (sym sealed ∙ unsealed));
      image_is = k.image_is;
      zygote_is = k.zygote_is;
      image = record { fill = k.image.fill ∙ sym fills.0; starts = λ q. k.image.starts q ∙ spots-kept g sealed formed q };
      zygote = collected-spots (heap_of s []) was t g s.zygote k.heap k.zygote;
    }

    acts-collected : Acts step p (gc_to p (collect p.graph))
    acts-collected = record { stands = stands-collected; page_table = refl; only = c.only; kept = λ a is quiet. frame-stays a is; made = λ a is made. absurd (true≢false (sym made)) }

pub collected-acts : (c : Step) (p : Part) (slots : List Slot) → StandsIn c.old c.was p → p.graph.sealed ≡ true → IsCollection c p slots → Acts c p (gc_to p (collect p.graph))
collected-acts c p slots k sealed is =
    subst (λ n. IsCollection (record c { new = n }) p slots → Acts (record c { new = n }) p (gc_to p (collect p.graph))) (sym is.rest)
    (acts-collected c.old c.new.roots c.new.objects c.new.rows c.new.regions c.was c.now p slots k sealed) is
