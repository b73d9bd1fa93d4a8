-- A process whose new object was placed in the image stands for its part with the object.
use Rattle.std.proofs.Common.{◌≡◌, ◌∙◌, ℕ, ◌+◌, ◌-◌, Bool, true, false, true≢false, ◌||◌, List, [], ◌∷◌, ◌++◌, Option, map, length, nat_lt, is_some, option_map, refl, sym, ap, subst, inl, inr, arith}
use Rattle.std.specs.Prelude.{IsTrue}
use Rattle.std.specs.List.{list_any}
use Rattle.std.proofs.lemmas.Bool.{and_parts, false_from_ne_true, leb-true}
use Rattle.std.proofs.lemmas.List.Elements.{filter-append}
use Rattle.std.specs.Prelude.{nat_eq, nat_le}
use Rattle.std.proofs.lemmas.List.Folds.{list_any-append}
use Rattle.std.proofs.lemmas.List.{append-nil}
use Rattle.class_layout.specs.Placing.{IsIn}
use Rattle.page_tables.specs.declared.address.Addr.{Addr}
use Rattle.page_tables.specs.declared.address.Window.TheVariants as window
use Rattle.page_tables.specs.Address.{is_in, page_of}
use Rattle.cow_pages.specs.Memory.{frame_at, is_mapped, is_written, page_at, HasOneSharer, Memory, Page}
use Rattle.cow_pages.specs.Only.{OnlyTable}
use Rattle.cow_pages.proofs.OnlyLemmas.{only-trans}
use Rattle.heap_graph.specs.declared.names.Place.{Place}
use Rattle.heap_graph.specs.declared.names.Place.TheVariants as place
use Rattle.heap_graph.specs.declared.names.Shape.{Shape}
use Rattle.heap_graph.specs.declared.names.Stored.{Stored}
use Rattle.heap_graph.specs.Allocation.{with_object}
use Rattle.heap_graph.specs.Allocation.Allocated.{Made}
use Rattle.heap_graph.specs.Formed.{IsFormed}
use Rattle.heap_graph.specs.Graph.{image_fill, is_young, size_of_object, zygote_fill, Graph, Object}
use Rattle.heap_graph.specs.Packing.{end_from, used, young_objects, young_sizes}
use Rattle.heap_graph.specs.Sizes.{parts_for, size_in, unrounded}
use Rattle.heap_graph.proofs.Sizes.{size-least}
use Rattle.model_numbers.specs.Numbers.{page_bytes, region_bytes}
use Rattle.heap_world.specs.declared.names.PageName.{PageName}
use Rattle.heap_world.specs.declared.names.PageName.TheVariants.{Image, Zygote, Large}
use Rattle.heap_world.specs.declared.names.Card.{Card}
use Rattle.heap_world.specs.declared.names.Card.TheVariants as card
use Rattle.heap_world.specs.Acts.{after_make, pages_of_new, root_written}
use Rattle.heap_world.specs.Pages.{is_touched}
use Rattle.heap_world.specs.Part.{Part}
use Rattle.heap_world.proofs.Standing.{in-left}
use Rattle.world_laws.proofs.PageLists.{in_count_at}
use Rattle.world_laws.specs.Named.{has_page, has_slot, is_named, is_paged, is_waiting, waits}
use Rattle.world_laws.proofs.Named.{fills-image, reaches-image}
use Rattle.address_table.specs.Computed.{large_count, Homes, HouseAll}
use Rattle.address_table.proofs.Beside.{all-in}
use Rattle.page_runs.specs.Runs.{IsInRun, MapsRun}
use Rattle.image_space.specs.Space.{pages_up_to}
use Rattle.page_runs.proofs.RunLemmas.{run-only, side}
use Rattle.raw_objects.specs.Keeps.{Keeps}
use Rattle.raw_objects.proofs.Kept.{one-table}
use Rattle.page_runs.specs.Covered.{covers}
use Rattle.graph_pages.specs.Pages.{page_named}
use Rattle.graph_pages.proofs.Grown.{grown-same}
use Rattle.graph_pages.proofs.Lists.{in-filter}
use Rattle.graph_pages.proofs.Named.{names-mapped}
use Rattle.object_moves.specs.Copies.{PacksAt}
use Rattle.object_moves.proofs.One.{covered-page}
use Rattle.evacuate.specs.Stands.{home_of, homes_in, young_homes, HoldsHeap}
use Rattle.evacuate.proofs.Members.{map-same}
use Rattle.root_list.specs.Roots.{with_root}
use Rattle.zygote_compact.specs.Spots.{is_spot}
use Rattle.image_space.specs.Space as image
use Rattle.mark_bitmap.specs.Marks.{is_marked}
use Rattle.graph_pages.proofs.Lists.{any-from}
use Rattle.heap_graph.specs.Formed.{is_in_image}
use Rattle.model_numbers.specs.Numbers.{image_base}
use Rattle.process_state.specs.Acts.{Acts, Step}
use Rattle.process_state.specs.Cards.{has_noted}
use Rattle.process_state.specs.Stands.{is_image_spot, HasFlags, StandsIn}
use Rattle.process_state.specs.State.{addresses_in, heap_of, State}
use Rattle.process_state.proofs.Pages.{named-window, waiting-slot}
use Rattle.process_state.proofs.Same.{sharer-mapped}
use Rattle.process_steps.specs.Kept.{IsKept}
use Rattle.process_steps.specs.Placing.{homes, HasPlace, IsMade, PlacesInImage}
use Rattle.process_steps.proofs.Growing.{rows-push, count-push, table-last}
use Rattle.process_steps.proofs.WithObject.{alone-then, any-push, heap-cards, made-addresses, made-count, made-names, made-promoted, more-paged}

module _ (s : State) (space : image.Space) (was between now : Memory) (p : Part) (root : List ℕ) (shape : Shape) (slots : List Stored) (at : ℕ) (k : StandsIn s was p) (sealed : p.graph.sealed ≡ false) where
  abbrev placed : State
  placed = record s { image = space }

  abbrev new : State
  new = record s { image = space; roots = with_root s.roots root (record { 0 = at }); next = s.next + 1; objects = s.objects + 1 }

  abbrev step : Step
  step = record { old = s; new = record s { image = space; roots = with_root s.roots root (record { 0 = at }); next = s.next + 1; objects = s.objects + 1 }; was = was; now = now }

  abbrev g : Graph
  g = p.graph

  abbrev t : ℕ
  t = s.page_table

  abbrev made : Object
  made = record { number = p.graph.next; shape = shape; slots = slots; place = (place.Image (image_base + image_fill p.graph)) }

  abbrev after : Graph
  after = root_written (with_object p.graph shape slots (place.Image (image_base + image_fill p.graph))) root p.graph.next

  abbrev size : ℕ
  size = size_in p.graph.classes shape

  abbrev now_homes : Homes
  now_homes = homes_in s.regions.in_use s.rows

  module _ (kept : IsKept (record p { graph = root_written (with_object p.graph shape slots (place.Image (image_base + image_fill p.graph))) root p.graph.next })) (placing : PlacesInImage s (record s { image = space }) was between at (size_in p.graph.classes shape))
      (room : HasPlace (record s { image = space }) between p shape (place.Image (image_base + image_fill p.graph)) at) (is : IsMade step p root shape slots (place.Image (image_base + image_fill p.graph)) (record s { image = space }) between at) where
    formed : IsFormed after
    formed = kept.part.formed

    stays : (o : Object) → IsIn o g.objects → addresses_in new after o.number ≡ addresses_in s g o.number
    stays o there =
        (grown-same now_homes g shape slots (place.Image (image_base + image_fill p.graph)) k.heap.formed).numbers o there

    at-is : addresses_in new after g.next ≡ at
    at-is = table-last now_homes g.classes g.next (record made { slots = [] }) made refl (λ end large. refl) 0 0 g.objects ∙ room.address

    young-keep : (stored : List Stored) → young_objects (with_object g shape stored (place.Image (image_base + image_fill p.graph))) ≡ young_objects g
    young-keep stored = filter-append (λ (o : Object). is_young o.place) g.objects (record made { slots = stored } ∷ []) ∙ append-nil (young_objects g)

    house : HouseAll now_homes after
    house =
        let same : used after ≡ used (with_object g shape [] (place.Image (image_base + image_fill p.graph))) = ap (λ os. parts_for region_bytes (end_from 0 (map (size_of_object g.classes) os))) (young-keep slots ∙ sym (young-keep [])) in
        let count : large_count 0 after.objects ≡ large_count 0 (with_object g shape [] (place.Image (image_base + image_fill p.graph))).objects = count-push 0 g.objects made ∙ sym (count-push 0 g.objects (record made { slots = [] })) in
        let young = room.house.for_young in
        let slotted = room.house.for_large in
        record { regions = room.house.regions; slots = room.house.slots; for_young = omega (arith, same, young); for_large = omega (arith, count, slotted) }

    -- ROWS AND REGIONS

    homes-keep : young_homes now_homes after ≡ young_homes (homes s) g
    homes-keep =
        ap (map (home_of (addresses_in new after))) (young-keep slots)
        ∙ map-same (home_of (addresses_in new after)) (home_of (addresses_in s g)) (young_objects g) (λ o there. ap (λ (n : ℕ). record { 0 = n }) (stays o (in-filter (λ (o : Object). is_young o.place) g.objects o there).0))

    packed : PacksAt s.regions.in_use (young_sizes after) (young_homes now_homes after)
    packed =
        subst (λ (os : List Object). PacksAt s.regions.in_use (map (size_of_object g.classes) os) (young_homes now_homes after)) (sym (young-keep slots))
        (subst (λ (xs : List Addr). PacksAt s.regions.in_use (young_sizes g) xs) (sym homes-keep) k.heap.stands.packed)

    -- MEMORY

    abbrev own : ℕ → Bool
    own q = covers at (size_in p.graph.classes shape) q

    keeps : Keeps between now t own
    keeps = is.keeps own (λ q low high. covered-page at size q (omega (arith, size-least g.classes made)) low high)

    maps : MapsRun was between t (image.end_page s.image.fill) (image.further_pages s.image.fill (s.image.fill + size_in p.graph.classes shape))
    maps = placing.pages.maps

    only : OnlyTable was now t
    only = only-trans was between now t (run-only was between t (image.end_page s.image.fill) (image.further_pages s.image.fill (s.image.fill + size_in p.graph.classes shape)) maps) (one-table between now t own keeps)

    run-alone : (q : ℕ) → IsInRun (image.end_page s.image.fill) (image.further_pages s.image.fill (s.image.fill + size_in p.graph.classes shape)) q → HasOneSharer now t q
    run-alone q here = let alone = maps.alone q here in keeps.alone q (sharer-mapped between t q placing.pages.sound alone) alone

    -- a page that was mapped stays so
    page-between : (q : ℕ) → is_mapped was t q ≡ true → page_at between t q ≡ page_at was t q
    page-between q mapped = elim (side t (image.end_page s.image.fill) (image.further_pages s.image.fill (s.image.fill + size_in p.graph.classes shape)) t q) [
      | inl beside ↦ maps.others t q beside
      | inr here ↦ absurd (true≢false (sym mapped ∙ maps.fresh q here.1))
    ]

    still-mapped : (q : ℕ) → is_mapped was t q ≡ true → is_mapped now t q ≡ true
    still-mapped q mapped = keeps.mapped q ∙ ap (λ (o : Option Page). is_some o) (page-between q mapped) ∙ mapped

    still-alone : (q : ℕ) → HasOneSharer was t q → HasOneSharer now t q
    still-alone q alone = alone-then was now t q only (still-mapped q (sharer-mapped was t q k.heap.sound alone)) alone

    -- NAMES

    fills : (image_fill after ≡ image_fill g + size_in p.graph.classes shape) × (zygote_fill after ≡ zygote_fill g)
    fills = fills-image g shape slots (image_base + image_fill g) k.heap.formed.zygote

    -- no object stands elsewhere
    no-slot : (n j : ℕ) → is_paged has_slot g.classes after.objects n j ≡ true → ⊥
    no-slot n j there =
        let it = any-from (has_page has_slot g.classes n j) after.objects there in
        let inside = all-in (λ (o : Object). is_in_image o.place ≡ true) after.objects it.0 it.1 (formed.before_seal sealed) in
        apart it.0.place inside (and_parts (has_slot it.0.place) (nat_lt j (parts_for page_bytes (unrounded g.classes it.0.shape))) (and_parts (nat_eq it.0.number n) _ it.2).1).0
      where
        apart : (at : Place) → is_in_image at ≡ true → has_slot at ≡ true → ⊥
        apart (place.Image spot) e h = true≢false (sym h)
        apart (place.Zygote spot) e h = true≢false (sym e)
        apart place.Young e h = true≢false (sym e)
        apart place.Large e h = true≢false (sym e)
        apart place.Promoted e h = true≢false (sym e)

    image-frame : (j : ℕ) → is_named g (Image j) ≡ true → frame_at now t (page_named (addresses_in new after) (Image j)) ≡ frame_at was t (page_named (addresses_in s g) (Image j))
    image-frame j there =
        let q : ℕ = page_named (addresses_in s g) (Image j) in
        let mapped = names-mapped (homes s) g k.heap.formed k.heap.house was t (Image j) k.heap.pages there in
        let inside = named-window (heap_of s []) was t g k.heap k.heap.formed.image_fits k.heap.formed.zygote_fits (Image j) there in
        let alone = alone-then was between t q (run-only was between t (image.end_page s.image.fill) (image.further_pages s.image.fill (s.image.fill + size_in p.graph.classes shape)) maps) (ap (λ (o : Option Page). is_some o) (page-between q mapped) ∙ mapped) (k.alone q sealed inside mapped) in
        keeps.frames q (ap (λ (o : Option Page). is_some o) (page-between q mapped) ∙ mapped) alone ∙ ap (λ (o : Option Page). option_map (λ (page : Page). page.frame) o) (page-between q mapped)

    zygote-frame : (j : ℕ) → is_named g (Zygote j) ≡ true → frame_at now t (page_named (addresses_in new after) (Zygote j)) ≡ frame_at was t (page_named (addresses_in s g) (Zygote j))
    zygote-frame j there =
        let q : ℕ = page_named (addresses_in s g) (Zygote j) in
        let mapped = names-mapped (homes s) g k.heap.formed k.heap.house was t (Zygote j) k.heap.pages there in
        let spot = placing.places.spot in
        let bounded = placing.space.bounded in
        let end = placing.places.fill in
        let off : covers at size q ≡ false = false_from_ne_true (covers at size q) (λ has.
        let range = leb-true q (page_of (at + size - 1)) (and_parts (nat_le (page_of at) q) (nat_le q (page_of (at + size - 1))) has).1 in
        absurd (omega (arith, range, spot, end, bounded, size-least g.classes made))) in
        ap (λ (o : Option Page). option_map (λ (page : Page). page.frame) o) (keeps.others t q (inr off) ∙ page-between q mapped)

    flags : HasFlags new now (record p { graph = root_written (with_object p.graph shape slots (place.Image (image_base + image_fill p.graph))) root p.graph.next })
    flags = record { touched = λ a seal there. absurd (true≢false (sym seal ∙ sealed)); waiting = λ a there. waiting a there }
      where
        waiting : (a : PageName) → waits after a ≡ true → IsTrue (is_written now t (page_named (addresses_in new after) a))
        waiting (Image j) there = absurd (true≢false (sym there))
        waiting (Zygote j) there = absurd (true≢false (sym there))
        waiting (Large n j) there = absurd (no-slot n j (more-paged is_waiting has_slot waiting-slot g.classes after.objects n j there))

    -- ALL OF IT

    noted-same : (d : Card) → has_noted new d ≡ has_noted s d
    noted-same (card.Image j) = refl
    noted-same (card.Zygote j) = refl

    heap : HoldsHeap (heap_of new []) now t after
    heap =
        record {
          formed = formed;
          house = house;
          pages = record { objects = is.pages.objects; pages = is.pages.pages };
          stands = record {
            classes = k.heap.stands.classes;
            packed = packed;
            objects = k.heap.stands.objects ∙ ap length (sym (young-keep slots));
            no_from = k.heap.stands.no_from;
            half = k.heap.stands.half;
            count = k.heap.stands.count;
            rows = k.heap.stands.rows ∙ sym (rows-push g.classes now_homes.slots 0 g.objects made (λ j rows. refl));
            roots = made-addresses s was p k new root shape slots (place.Image (image_base + image_fill p.graph)) stays at at-is;
          };
          regions = λ q holds. still-alone q (k.heap.regions q holds);
          large = λ q holds. still-alone q (k.heap.large q holds);
          space = k.heap.space;
          sound = is.sound;
          live = keeps.live t ∙ maps.live t ∙ k.heap.live;
        }

    image-alone : (q : ℕ) → is_in window.Image q ≡ true → IsTrue (is_mapped now t q) → HasOneSharer now t q
    image-alone q inside mapped = elim (side t (image.end_page s.image.fill) (image.further_pages s.image.fill (s.image.fill + size_in p.graph.classes shape)) t q) [
      | inl beside ↦ still-alone q (k.alone q sealed inside (sym (keeps.mapped q ∙ ap (λ (o : Option Page). is_some o) (maps.others t q beside)) ∙ mapped))
      | inr here ↦ run-alone q here.1
    ]

    spots : (q : ℕ) → (nat_eq q at || is_marked s.image.starts q) ≡ list_any (λ (o : Object). is_image_spot q o.place) after.objects
    spots q =
        let spot : at ≡ image_base + image_fill g = placing.places.spot ∙ ap (λ n. image_base + n) k.image.fill in
        let old : Bool = list_any (λ (o : Object). is_image_spot q o.place) g.objects in
        ap (λ b. nat_eq q at || b) (k.image.starts q) ∙ ap (λ n. nat_eq q n || old) spot ∙ swap (nat_eq q (image_base + image_fill g)) old
        ∙ sym (list_any-append (λ (o : Object). is_image_spot q o.place) g.objects (made ∷ []))
      where
        swap : (a b : Bool) → (a || b) ≡ (b || (a || false))
        swap true true = refl
        swap true false = refl
        swap false true = refl
        swap false false = refl

    stands-made : StandsIn new now (record p { graph = root_written (with_object p.graph shape slots (place.Image (image_base + image_fill p.graph))) root p.graph.next })
    stands-made = record {
      lives = k.lives;
      part = kept.part;
      outward = kept.outward;
      within = kept.within;
      counts = record {
        names = made-names s was p k new root shape slots (place.Image (image_base + image_fill p.graph)) stays at at-is;
        next = ap (λ n. n + 1) k.counts.next;
        numbered = omega arith;
        budget = k.counts.budget;
        is_sealed = k.counts.is_sealed;
        dumps = k.counts.dumps;
        objects = made-count s was p k new root shape slots (place.Image (image_base + image_fill p.graph));
        promoted = k.counts.promoted ∙ ap length (sym (made-promoted s was p k new root shape slots (place.Image (image_base + image_fill p.graph)) refl));
      };
      heap = heap;
      flags = flags;
      cards = heap-cards s was p k new root shape slots (place.Image (image_base + image_fill p.graph)) sealed noted-same refl refl;
      alone = λ q unsealed inside mapped. image-alone q inside mapped;
      image_is = placing.space;
      zygote_is = k.zygote_is;
      image = record {
        fill = let end = placing.places.fill in let was-fill = k.image.fill in omega (arith, end, was-fill, fills.0);
        starts = λ q. placing.places.starts q ∙ spots q;
      };
      zygote = record { closed = k.zygote.closed; fill = k.zygote.fill ∙ sym fills.1; starts = λ q. k.zygote.starts q ∙ sym (any-push (λ (o : Object). is_spot q o.place) g.objects made refl) };
    }

    acts-made : Acts step p (after_make p root shape (Made (with_object p.graph shape slots (place.Image (image_base + image_fill p.graph))) false))
    acts-made = record {
      stands = stands-made;
      page_table = refl;
      only = only;
      kept = λ a named quiet. kept-frame a named quiet;
      made = λ a named new'. made-alone a (subst (λ b. is_touched (pages_of_new b g shape) a ≡ true) sealed new');
    }
      where
        kept-frame : (a : PageName) → is_named after a ≡ true → is_touched (pages_of_new p.graph.sealed g shape ++ []) a ≡ false
            → frame_at now t (page_named (addresses_in new after) a) ≡ frame_at was t (page_named (addresses_in s g) a)
        kept-frame (Image j) named quiet = elim (reaches-image g shape slots k.heap.formed.zygote (Image j) named) [
          | inl before ↦ image-frame j before
          | inr new' ↦ absurd (true≢false (sym (in-left (pages_of_new p.graph.sealed g shape) [] (Image j) (ap (λ b. is_touched (pages_of_new b g shape) (Image j)) sealed ∙ new')) ∙ quiet))
        ]
        kept-frame (Zygote j) named quiet = zygote-frame j (ap (λ n. nat_lt j (parts_for page_bytes n)) (sym fills.1) ∙ named)
        kept-frame (Large n j) named quiet = absurd (no-slot n j named)

        made-alone : (a : PageName) → is_touched (pages_of_new false g shape) a ≡ true → HasOneSharer now t (page_named (addresses_in new after) a)
        made-alone a there =
            let low : ℕ = parts_for page_bytes (image_fill g) in
            let it = in_count_at Image low (parts_for page_bytes (image_fill g + size) - low) a there in
            let fill = k.image.fill in
            subst (λ b. HasOneSharer now t (page_named (addresses_in new after) b)) (sym it.3)
            (run-alone (page_named (addresses_in new after) (Image it.0)) (record { from = omega (arith, it.1, fill); to = omega (arith, it.1, it.2, fill) }))

pub made-image : (c : Step) (p : Part) (root : List ℕ) (shape : Shape) (slots : List Stored) (placed : State) (between : Memory) (at : ℕ) → StandsIn c.old c.was p → p.graph.sealed ≡ false
    → IsKept (after_make p root shape (Made (with_object p.graph shape slots (place.Image (image_base + image_fill p.graph))) false)).part → PlacesInImage c.old placed c.was between at (size_in p.graph.classes shape)
    → HasPlace placed between p shape (place.Image (image_base + image_fill p.graph)) at → IsMade c p root shape slots (place.Image (image_base + image_fill p.graph)) placed between at → Acts c p (after_make p root shape (Made (with_object p.graph shape slots (place.Image (image_base + image_fill p.graph))) false))
made-image c p root shape slots placed between at k sealed kept placing =
    subst (λ (x : State). PlacesInImage c.old x c.was between at (size_in p.graph.classes shape) → HasPlace x between p shape (place.Image (image_base + image_fill p.graph)) at → IsMade c p root shape slots (place.Image (image_base + image_fill p.graph)) x between at
    → Acts c p (after_make p root shape (Made (with_object p.graph shape slots (place.Image (image_base + image_fill p.graph))) false))) (sym placing.rest)
    (λ places room is.
    subst (λ (n : State). IsMade (record c { new = n }) p root shape slots (place.Image (image_base + image_fill p.graph)) (record c.old { image = placed.image }) between at
    → Acts (record c { new = n }) p (after_make p root shape (Made (with_object p.graph shape slots (place.Image (image_base + image_fill p.graph))) false))) (sym is.rest)
    (acts-made c.old placed.image c.was between c.now p root shape slots at k sealed kept places room) is) placing
