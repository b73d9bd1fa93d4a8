-- A collected process that is promoted: it stands for the promoted part, and pages keep their frames or are its own.
use Rattle.std.proofs.Common.{◌≡◌, ◌∙◌, ℕ, ◌+◌, ◌-◌, ◌<◌, ◌≤◌, ◌++◌, Bool, true, false, true≢false, List, [], length, refl, sym, ap, subst, inl, inr, arith}
use Rattle.std.specs.Prelude.{nat_le}
use Rattle.std.specs.List.{list_any, AllByRecursion}
use Rattle.std.proofs.lemmas.Bool.{and_from, le-leb, or_right}
use Rattle.std.proofs.lemmas.List.{append-nil}
use Rattle.model_numbers.specs.Numbers.{image_base, image_length, page_bytes, zygote_base, zygote_length}
use Rattle.class_layout.specs.Placing.{IsIn}
use Rattle.page_tables.specs.declared.address.Window.TheVariants as window
use Rattle.page_tables.specs.Address.{is_in, page_of}
use Rattle.cow_pages.specs.Memory.{frame_at, is_mapped, mapped_in, HasOneSharer, Memory}
use Rattle.cow_pages.proofs.OnlyLemmas.{only-trans}
use Rattle.heap_graph.specs.Collection.{collect}
use Rattle.heap_graph.specs.Fork.{has_zygote_room, promoted, promotion_bytes, promotion_start}
use Rattle.heap_graph.specs.Graph.{is_immune, zygote_fill, Graph, Object}
use Rattle.heap_graph.specs.Sizes.{parts_for}
use Rattle.heap_world.specs.declared.names.Card.{Card}
use Rattle.heap_world.specs.declared.names.Card.TheVariants as card
use Rattle.heap_world.specs.declared.names.PageName.{PageName}
use Rattle.heap_world.specs.declared.names.PageName.TheVariants.{Image, Zygote, Large}
use Rattle.heap_world.specs.declared.reply.Reply.TheVariants.{Done}
use Rattle.heap_world.specs.Acts.{fork_collected, fork_pages, fork_part}
use Rattle.heap_world.specs.Pages.{is_touched, promoted_pages}
use Rattle.heap_world.specs.Part.{with_collected, Part}
use Rattle.heap_world.specs.Sound.{IsSound}
use Rattle.heap_world.proofs.Noted.{all-immune}
use Rattle.heap_world.proofs.SoundActs.{fork_sound}
use Rattle.world_laws.specs.Named.{has_slot, is_named}
use Rattle.world_laws.specs.Outward.{NotesWithin, TouchesOutward}
use Rattle.world_laws.proofs.Named.{reaches-promoted}
use Rattle.world_laws.proofs.NotedCards.{fork_notes}
use Rattle.world_laws.proofs.OutwardPages.{fork_touches}
use Rattle.world_laws.proofs.PageLists.{in_count_at}
use Rattle.world_laws.proofs.Promoting.{all_immune, none_wait}
use Rattle.object_view.specs.declared.names.Slot.{Slot}
use Rattle.region_space.specs.Space.{lists_of, Space}
use Rattle.large_objects.specs.declared.rows.LargeRow.{LargeRow}
use Rattle.large_objects.specs.Pages.{holds_page, page_sum, HasPages}
use Rattle.large_objects.specs.Rows.{promoted_row, AreRows}
use Rattle.large_objects.proofs.LawLemmas.{rows-counted}
use Rattle.zygote_space.specs.Space as zygote
use Rattle.zygote_space.specs.Space.{to_page, zygote_spot}
use Rattle.graph_pages.specs.Pages.{page_named}
use Rattle.graph_pages.proofs.Lists.{in-map}
use Rattle.graph_pages.proofs.Named.{names-mapped}
use Rattle.object_promotion.specs.Promotes.{in_segment}
use Rattle.evacuate.specs.Stands.{homes_of, HoldsHeap}
use Rattle.evacuate.proofs.Members.{in-contains}
use Rattle.evacuate.proofs.Pages.{large-pages}
use Rattle.evacuate.proofs.Rows.{row-address}
use Rattle.evacuate.proofs.Stand.{are-rows}
use Rattle.root_list.specs.declared.root.RootAt.{RootAt}
use Rattle.process_state.specs.Acts.{Acts, Step}
use Rattle.process_state.specs.Cards.{has_noted, NotesCards, NotesWindow}
use Rattle.process_state.specs.Stands.{HasFlags, StandsIn}
use Rattle.process_state.specs.State.{addresses_in, heap_of, Notes, State}
use Rattle.process_state.proofs.Pages.{named-beside, row-of-page}
use Rattle.process_steps.specs.Kept.{IsKept}
use Rattle.process_steps.specs.Promoting.{AreCleared, IsPromotion}
use Rattle.process_steps.proofs.Promoted.{image-promoted, length-promoted, pages-promoted, spots-promoted}
use Rattle.process_steps.proofs.Settled.{flag-settled, frame-settled, heap-settled, only-settled, sharer-settled}

-- the rows of a promoted graph have as many pages as its promoted objects by name
rows-pages : (s : State) (m : Memory) (t : ℕ) (g : Graph) → HoldsHeap (heap_of s []) m t (promoted g) → mapped_in m t window.Large ≡ length (promoted_pages (promoted g))
rows-pages s m t g held =
    rows-counted m t s.rows held.sound are pages ∙ ap page_sum held.stands.rows ∙ pages-promoted g.classes (homes_of (heap_of s [])).slots (promotion_start g) 0 g.objects
  where
    are : AreRows s.rows
    are = subst AreRows (sym held.stands.rows) (are-rows (homes_of (heap_of s [])) (promoted g) held.formed held.house)

    pages : HasPages m t s.rows
    pages q inside =
        held.pages.pages window.Large q inside ∙ sym (large-pages (homes_of (heap_of s [])) (promoted g) held.formed held.house (lists_of s.regions) held.space held.stands.packed q inside)
        ∙ ap (list_any (holds_page q)) (sym held.stands.rows)

-- where a fork has room, it promotes
fork-room : (p : Part) → (fork_part p).reply ≡ Done → has_zygote_room (collect p.graph) ≡ true
fork-room p = by (has_zygote_room (collect p.graph))
  where
    by : (b : Bool) → (fork_collected b p (collect p.graph)).reply ≡ Done → b ≡ true
    by true done = refl
    by false done = absurd cc

-- notes that were cleared are of the same window
window-cleared : (base bytes : ℕ) (old new : Notes) → AreCleared old new → NotesWindow base bytes old → NotesWindow base bytes new
window-cleared base bytes old new cleared was =
    record { start = cleared.start ∙ was.start; span = cleared.span ∙ was.span; behind = λ c is. absurd (true≢false (sym is ∙ cleared.none c)) }

module _ (s : State) (roots : List RootAt) (count : ℕ) (rows : List LargeRow) (image_notes zygote_notes : Notes) (regions : Space) (zygote : zygote.Space) (was between now : Memory) (p : Part) (slots : List Slot)
    (kept : IsKept p) (sealed : p.graph.sealed ≡ true) (room : has_zygote_room (collect p.graph) ≡ true) (k : StandsIn s was (with_collected p (collect p.graph))) where
  abbrev next : State
  next = record s { roots = roots; promoted_pages = count; rows = rows; image_notes = image_notes; zygote_notes = zygote_notes; regions = regions; zygote = zygote }

  abbrev step : Step
  step = record {
    old = s;
    new = record s { roots = roots; promoted_pages = count; rows = rows; image_notes = image_notes; zygote_notes = zygote_notes; regions = regions; zygote = zygote };
    was = was;
    now = now;
  }

  abbrev g : Graph
  g = collect p.graph

  abbrev left : Graph
  left = promoted (collect p.graph)

  abbrev t : ℕ
  t = s.page_table

  abbrev part : Part
  part = record p { graph = promoted (collect p.graph); touched = []; stored = []; held = [] }

  is_sound : IsSound part
  is_sound = subst (λ b. IsSound (fork_collected b p (collect p.graph)).part) room (fork_sound p sealed kept.part)

  module _ (c : IsPromotion step (collect p.graph) slots between) where
    heap : HoldsHeap (heap_of next []) now t left
    heap = heap-settled between now t c.settles next left c.heap

    -- PAGES

    abbrev old-page : PageName → ℕ
    old-page a = page_named (addresses_in s (collect p.graph)) a

    abbrev new-page : PageName → ℕ
    new-page a = page_named (addresses_in next (promoted (collect p.graph))) a

    -- large objects stay in their slots
    same-page : (a : PageName) → is_named left a ≡ true → new-page a ≡ old-page a
    same-page (Image j) is = refl
    same-page (Zygote j) is = refl
    same-page (Large n j) is =
        let it = row-of-page (heap_of next []) now t left heap has_slot (λ at e. e) n j is in
        let from = in-map promoted_row s.rows it.row (subst (IsIn it.row) c.rows it.is_in) in
        let before = row-address (heap_of s []) g from.0 k.heap.formed k.heap.stands (in-contains s.rows from.0 from.1) in
        let number : from.0.number ≡ n = ap (λ (r : LargeRow). r.number) from.2 ∙ it.number in
        let slot = ap (λ (r : LargeRow). r.slot) from.2 in
        omega (arith, it.address, before, slot, ap (addresses_in s g) number)

    -- what was named stands outside the regions, and keeps its frame
    frame-stays : (a : PageName) → is_named left a ≡ true → is_touched (fork_pages g ++ []) a ≡ false → frame_at now t (new-page a) ≡ frame_at was t (old-page a)
    frame-stays a is quiet =
        frame-settled between now t c.settles t (new-page a) ∙ ap (frame_at between t) (same-page a is)
        ∙ c.pages.frames (old-page a) beside (names-mapped (homes_of (heap_of s [])) g k.heap.formed k.heap.house was t a k.heap.pages before)
      where
        before : is_named g a ≡ true
        before = elim (reaches-promoted g k.heap.formed is_sound.formed a is) [
          | inl named ↦ named
          | inr made ↦ absurd (true≢false (sym made ∙ sym (ap (λ ps. is_touched ps a) (append-nil (fork_pages g))) ∙ quiet))
        ]

        beside : is_in window.Regions (old-page a) ≡ false
        beside = named-beside (heap_of s []) was t g k.heap (omega (arith, k.heap.formed.image_fits)) (omega (arith, k.heap.formed.zygote_fits)) a before

    -- a page behind those of the old fill is one of the new segment, whose pages are alone
    segment-alone : (j : ℕ) → parts_for page_bytes (zygote_fill g) ≤ j → j < parts_for page_bytes (zygote_fill g) + parts_for page_bytes (promotion_bytes g) → is_named left (Zygote j) ≡ true
        → HasOneSharer now t (new-page (Zygote j))
    segment-alone j low high is = sharer-settled between now t c.settles (new-page (Zygote j)) (c.pages.alone (new-page (Zygote j)) (or_right _ _ inside) mapped)
      where
        inside : in_segment (zygote_fill g) (promotion_bytes g) (new-page (Zygote j)) ≡ true
        inside =
            and_from (nat_le (page_of (zygote_spot (to_page (zygote_fill g)))) (new-page (Zygote j)))
            (nat_le (new-page (Zygote j)) (page_of (zygote_spot (to_page (zygote_fill g)) + promotion_bytes g - 1)))
            (le-leb _ _ (omega (arith, low))) (le-leb _ _ (omega (arith, low, high)))

        mapped : is_mapped between t (new-page (Zygote j)) ≡ true
        mapped = names-mapped (homes_of (heap_of next [])) left c.heap.formed c.heap.house between t (Zygote j) c.heap.pages is

    made-alone : (a : PageName) → is_named left a ≡ true → is_touched (fork_pages g) a ≡ true → HasOneSharer now t (new-page a)
    made-alone a is made =
        let it = in_count_at Zygote (parts_for page_bytes (zygote_fill g)) (parts_for page_bytes (promotion_bytes g)) a made in
        subst (λ b. HasOneSharer now t (new-page b)) (sym it.3) (segment-alone it.0 it.1 it.2 (subst (λ b. is_named left b ≡ true) it.3 is))

    -- FLAGS AND CARDS

    flags : HasFlags next now part
    flags = record {
      touched = λ a seal is. flag-settled between now t c.settles (new-page a);
      waiting = λ a is. absurd (true≢false (sym is ∙ none_wait g a));
    }

    none-noted : (d : Card) → has_noted next d ≡ false
    none-noted (card.Image j) = c.image_notes.none _
    none-noted (card.Zygote j) = c.zygote_notes.none _

    immune : AllByRecursion (λ (o : Object). is_immune left.sealed o.place ≡ true) left.objects
    immune = subst (λ b. AllByRecursion (λ (o : Object). is_immune b o.place ≡ true) left.objects) (sym sealed) (all_immune g.classes (promotion_start g) g.objects)

    cards : NotesCards next part
    cards = record {
      image = window-cleared image_base image_length s.image_notes image_notes c.image_notes k.cards.image;
      zygote = window-cleared zygote_base zygote_length s.zygote_notes zygote_notes c.zygote_notes k.cards.zygote;
      noted = λ d is. absurd (true≢false (sym is ∙ none-noted d));
      outward = all-immune (λ d. has_noted next d ≡ true) left immune;
      before_seal = λ unsealed. absurd (true≢false (sym sealed ∙ unsealed));
    }

    -- THE WHOLE

    stands-promoted : StandsIn next now part
    stands-promoted = record {
      lives = k.lives;
      part = is_sound;
      outward = subst (λ b. TouchesOutward (fork_collected b p (collect p.graph)).part) room (fork_touches p sealed kept.part kept.outward);
      within = subst (λ b. NotesWithin (fork_collected b p (collect p.graph)).part) room (fork_notes p kept.part kept.within sealed);
      counts = record {
        names = c.names ∙ k.counts.names;
        next = k.counts.next;
        numbered = k.counts.numbered;
        budget = k.counts.budget;
        is_sealed = k.counts.is_sealed;
        dumps = k.counts.dumps;
        objects = k.counts.objects ∙ sym (length-promoted g.classes (promotion_start g) g.objects);
        promoted = c.promoted_pages ∙ rows-pages next now t g heap;
      };
      heap = heap;
      flags = flags;
      cards = cards;
      alone = λ q unsealed. absurd (true≢false (sym sealed ∙ unsealed));
      image_is = k.image_is;
      zygote_is = c.zygote_is;
      image = record {
        fill = k.image.fill ∙ sym (image-promoted g);
        starts = λ q. k.image.starts q ∙ sym (spots-promoted g.classes q (promotion_start g) g.objects);
      };
      zygote = c.spots;
    }

    acts-promoted : Acts step (with_collected p (collect p.graph)) (fork_collected true p (collect p.graph))
    acts-promoted = record {
      stands = stands-promoted;
      page_table = refl;
      only = only-trans was between now t c.only (only-settled between now t c.settles c.heap.live);
      kept = frame-stays;
      made = made-alone;
    }

pub promotion-acts : (c : Step) (p : Part) (slots : List Slot) (between : Memory) → IsKept p → p.graph.sealed ≡ true → (fork_part p).reply ≡ Done → StandsIn c.old c.was (with_collected p (collect p.graph))
    → IsPromotion c (collect p.graph) slots between → Acts c (with_collected p (collect p.graph)) (fork_part p)
promotion-acts c p slots between kept sealed done k is =
    let room : has_zygote_room (collect p.graph) ≡ true = fork-room p done in
    subst (λ b. Acts c (with_collected p (collect p.graph)) (fork_collected b p (collect p.graph))) (sym room)
    (subst (λ n. IsPromotion (record c { new = n }) (collect p.graph) slots between → Acts (record c { new = n }) (with_collected p (collect p.graph)) (fork_collected true p (collect p.graph))) (sym is.rest)
    (acts-promoted c.old c.new.roots c.new.promoted_pages c.new.rows c.new.image_notes c.new.zygote_notes c.new.regions c.new.zygote c.was between c.now p slots kept sealed room k) is)
