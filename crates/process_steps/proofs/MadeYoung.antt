-- A process whose new object was placed in the regions stands for its part with the object.
use Rattle.std.proofs.Common.{◌≡◌, ◌∙◌, ℕ, ◌+◌, ◌*◌, ◌<◌, ◌≤◌, Bool, true, false, true≢false, List, [], ◌∷◌, ◌++◌, Option, map, length, nat_lt, is_some, option_map, refl, sym, ap, subst, inl, inr, arith}
use Rattle.std.specs.Prelude.{IsTrue}
use Rattle.std.specs.List.{list_any}
use Rattle.std.proofs.lemmas.Bool.{or_cases, or_left, or_right}
use Rattle.std.proofs.lemmas.List.Folds.{list_any-append}
use Rattle.std.proofs.lemmas.List.{append-nil, length-append, length-map, map-append}
use Rattle.class_layout.specs.ClassList.{Class}
use Rattle.class_layout.specs.Placing.{IsIn}
use Rattle.page_tables.specs.declared.address.Addr.{Addr}
use Rattle.page_tables.specs.declared.address.Window.TheVariants as window
use Rattle.page_tables.specs.Address.{is_in, page_of}
use Rattle.cow_pages.specs.Memory.{flag_of, is_mapped, is_written, page_at, HasOneSharer, Memory, Page}
use Rattle.cow_pages.specs.Only.{OnlyTable}
use Rattle.cow_pages.proofs.OnlyLemmas.{only-trans}
use Rattle.heap_graph.specs.declared.names.Place.{Place}
use Rattle.heap_graph.specs.declared.names.Place.TheVariants as place
use Rattle.heap_graph.specs.declared.names.Shape.{Shape}
use Rattle.heap_graph.specs.declared.names.Stored.{Stored}
use Rattle.heap_graph.specs.Allocation.{with_object}
use Rattle.heap_graph.specs.Allocation.Allocated.{Made}
use Rattle.heap_graph.specs.Formed.{IsFormed, SuitsShape}
use Rattle.heap_graph.specs.Graph.{image_fill, is_young, size_of_object, zygote_fill, Graph, Object}
use Rattle.heap_graph.specs.Packing.{end_from, places_from, used, young_objects, young_sizes}
use Rattle.heap_graph.specs.Sizes.{is_large, parts_for, size_in}
use Rattle.heap_graph.proofs.Sizes.{size-least, young-packed}
use Rattle.model_numbers.specs.Numbers.{page_bytes, region_bytes}
use Rattle.heap_world.specs.declared.names.PageName.{PageName}
use Rattle.heap_world.specs.declared.names.PageName.TheVariants.{Image, Zygote, Large}
use Rattle.heap_world.specs.declared.names.Card.{Card}
use Rattle.heap_world.specs.declared.names.Card.TheVariants as card
use Rattle.heap_world.specs.Acts.{after_make, pages_of_new, root_written, slot_pages_if}
use Rattle.heap_world.specs.Pages.{is_touched}
use Rattle.heap_world.specs.Part.{Part}
use Rattle.heap_world.proofs.Placed.{end-is, young_end, young_next}
use Rattle.world_laws.specs.Named.{has_page, has_slot, is_named, is_page, is_promoted, is_waiting, stands, waits}
use Rattle.world_laws.proofs.Named.{fills-heap}
use Rattle.address_table.specs.Computed.{end_behind, large_count, packed_at, Homes, HouseAll}
use Rattle.address_table.proofs.Behind.{last_end}
use Rattle.address_table.proofs.Beside.{all-in, not-too-large, shape-in}
use Rattle.page_runs.specs.Runs.{MapsRun}
use Rattle.page_runs.proofs.RunLemmas.{run-only, side}
use Rattle.raw_objects.specs.Keeps.{Keeps}
use Rattle.raw_objects.proofs.Kept.{one-table}
use Rattle.region_lists.specs.Rows.{Row}
use Rattle.region_space.specs.Packed.{address_in, end_of_rows, Pack}
use Rattle.region_space.specs.Space.{filled, holds_page, lists_of, IsSize, Space}
use Rattle.region_space.specs.Space as region
use Rattle.region_space.proofs.PackLemmas.{object-stays, pack-more}
use Rattle.region_space.proofs.WalkLemmas.{in_use-filled}
use Rattle.page_runs.specs.Covered.{covers}
use Rattle.graph_pages.specs.Pages.{page_named}
use Rattle.graph_pages.proofs.Grown.{grown-same}
use Rattle.graph_pages.proofs.Lists.{in-filter, in-last}
use Rattle.graph_pages.proofs.Named.{names-mapped}
use Rattle.object_collection.proofs.Running.{filled-window}
use Rattle.object_moves.specs.Copies.{PacksAt}
use Rattle.object_moves.proofs.One.{covered-page}
use Rattle.evacuate.specs.Stands.{home_of, homes_in, young_homes, HoldsHeap}
use Rattle.evacuate.proofs.Members.{map-same, map-twice}
use Rattle.evacuate.proofs.Packed.{young-table}
use Rattle.root_list.specs.Roots.{with_root}
use Rattle.zygote_compact.specs.Spots.{is_spot}
use Rattle.process_state.specs.Acts.{Acts, Step}
use Rattle.process_state.specs.Cards.{has_noted}
use Rattle.process_state.specs.Stands.{is_image_spot, HasFlags, StandsIn}
use Rattle.process_state.specs.State.{addresses_in, heap_of, State}
use Rattle.process_state.proofs.Pages.{named-beside, promoted-slot, waiting-slot}
use Rattle.process_state.proofs.Same.{sharer-mapped}
use Rattle.process_steps.specs.Kept.{IsKept}
use Rattle.process_steps.specs.Placing.{homes, HasPlace, IsMade, PlacesInRegions}
use Rattle.process_steps.proofs.Growing.{count-push, rows-push, table-last, table-same}
use Rattle.process_steps.proofs.Packing.{in_use-grown, packs-push, sizes-push, young-push}
use Rattle.process_steps.proofs.WithObject.{alone-then, any-push, covers-range, heap-cards, made-addresses, made-count, made-names, made-promoted, more-paged, no-page, paged-object}

-- both words for the end of the young objects say the same
next-is : (cs : List Class) (end : ℕ) (o : Object) (at : Place) → young_next cs end o at ≡ end_behind cs end o at
next-is cs end o (place.Image spot) = refl
next-is cs end o (place.Zygote spot) = refl
next-is cs end o place.Young = refl
next-is cs end o place.Large = refl
next-is cs end o place.Promoted = refl

young-last : (cs : List Class) (end : ℕ) (os : List Object) → young_end cs end os ≡ last_end cs end os
young-last cs end [] = refl
young-last cs end (o ∷ os) = ap (λ n. young_end cs n os) (next-is cs end o o.place) ∙ young-last cs (end_behind cs end o o.place) os

pub last-is : (g : Graph) → end_from 0 (young_sizes g) ≡ last_end g.classes 0 g.objects
last-is g = end-is g.classes 0 g.objects ∙ young-last g.classes 0 g.objects

module _ (s : State) (regions : Space) (was between now : Memory) (p : Part) (root : List ℕ) (shape : Shape) (slots : List Stored) (at : ℕ) (k : StandsIn s was p) (sealed : p.graph.sealed ≡ true) where
  abbrev placed : State
  placed = record s { regions = regions }

  abbrev new : State
  new = record s { regions = regions; roots = with_root s.roots root (record { 0 = at }); next = s.next + 1; objects = s.objects + 1 }

  abbrev step : Step
  step = record { old = s; new = record s { regions = regions; roots = with_root s.roots root (record { 0 = at }); next = s.next + 1; objects = s.objects + 1 }; was = was; now = now }

  abbrev g : Graph
  g = p.graph

  abbrev t : ℕ
  t = s.page_table

  abbrev made : Object
  made = record { number = p.graph.next; shape = shape; slots = slots; place = place.Young }

  abbrev after : Graph
  after = root_written (with_object p.graph shape slots place.Young) root p.graph.next

  abbrev size : ℕ
  size = size_in p.graph.classes shape

  abbrev now_homes : Homes
  now_homes = homes_in regions.in_use s.rows

  module _ (kept : IsKept (record p { graph = root_written (with_object p.graph shape slots place.Young) root p.graph.next })) (placing : PlacesInRegions s (record s { regions = regions }) was between at (size_in p.graph.classes shape))
      (room : HasPlace (record s { regions = regions }) between p shape place.Young at) (is : IsMade step p root shape slots place.Young (record s { regions = regions }) between at) where
    formed : IsFormed after
    formed = kept.part.formed

    small : is_large p.graph.classes shape ≡ false
    small = all-in (λ (o : Object). SuitsShape g.classes o o.place) (g.objects ++ made ∷ []) made (in-last g.objects made) formed.places

    -- the object fits a region
    fits : IsSize size
    fits =
        let packed = young-packed (record g { objects = made ∷ [] }) ((not-too-large g.classes shape (shape-in g.classes (g.objects ++ made ∷ []) made (in-last g.objects made) formed.objects), small), tt) in
        record { multiple = omega arith; least = size-least g.classes made; greatest = omega (arith, packed.1.1, packed.1.2) }

    -- ADDRESSES

    below-end : last_end g.classes 0 g.objects ≤ end_of_rows s.regions.in_use
    below-end = let ends = k.heap.stands.packed.pack.end in omega (arith, ends, last-is g)

    agree : (q : ℕ) → q < end_of_rows s.regions.in_use → packed_at now_homes.regions q ≡ packed_at (homes s).regions q
    agree q low = ap (λ (rows : List Row). address_in rows q) placing.places.in_use ∙ object-stays s.regions.in_use placing.places.region size q (in_use-filled (lists_of s.regions) k.heap.space) low

    stays : (o : Object) → IsIn o g.objects → addresses_in new after o.number ≡ addresses_in s g o.number
    stays o there =
        (grown-same now_homes g shape slots place.Young k.heap.formed).numbers o there
        ∙ table-same (homes s) now_homes g.classes (end_of_rows s.regions.in_use) (large_count 0 g.objects) agree (λ j few. refl) 0 0 g.objects o.number below-end (omega arith)

    at-is : addresses_in new after g.next ≡ at
    at-is = table-last now_homes g.classes g.next (record made { slots = [] }) made refl (λ end large. refl) 0 0 g.objects ∙ room.address

    house : HouseAll now_homes after
    house =
        let before : young_sizes after ≡ young_sizes (with_object g shape [] place.Young) = sizes-push g shape slots ∙ sym (sizes-push g shape []) in
        let same : used after ≡ used (with_object g shape [] place.Young) = ap (λ ss. parts_for region_bytes (end_from 0 ss)) before in
        let count : large_count 0 after.objects ≡ large_count 0 (with_object g shape [] place.Young).objects = count-push 0 g.objects made ∙ sym (count-push 0 g.objects (record made { slots = [] })) in
        let young = room.house.for_young in
        let slotted = room.house.for_large in
        record { regions = room.house.regions; slots = room.house.slots; for_young = omega (arith, same, young); for_large = omega (arith, count, slotted) }

    -- REGIONS

    rows-are : Pack regions.in_use (young_sizes g ++ size ∷ [])
    rows-are = subst (λ (rows : List Row). Pack rows (young_sizes g ++ size ∷ [])) (sym placing.places.in_use) (pack-more s.regions.in_use (young_sizes g) placing.places.region size k.heap.stands.packed.pack fits)

    homes-push : young_homes now_homes after ≡ young_homes (homes s) g ++ record { 0 = at } ∷ []
    homes-push =
        ap (map (home_of (addresses_in new after))) (young-push g shape slots)
        ∙ map-append (home_of (addresses_in new after)) (young_objects g) (made ∷ [])
        ∙ ap (λ (xs : List Addr). xs ++ record { 0 = addresses_in new after g.next } ∷ [])
        (map-same (home_of (addresses_in new after)) (home_of (addresses_in s g)) (young_objects g) (λ o there. ap (λ (n : ℕ). record { 0 = n }) (stays o (in-filter (λ (o : Object). is_young o.place) g.objects o there).0)))
        ∙ ap (λ (n : ℕ). young_homes (homes s) g ++ record { 0 = n } ∷ []) at-is

    packed : PacksAt regions.in_use (young_sizes after) (young_homes now_homes after)
    packed =
        let places : map (λ (a : Addr). a.0) (young_homes now_homes after) ≡ map (address_in regions.in_use) (places_from 0 (young_sizes after)) =
        map-twice (λ (a : Addr). a.0) (home_of (addresses_in new after)) (young_objects after) ∙ young-table now_homes g.classes 0 after.next 0 0 after.objects formed.numbers in
        let in-row : map (λ (a : Addr). a.0) (young_homes (homes s) g ++ record { 0 = at } ∷ []) ≡ map (address_in regions.in_use) (places_from 0 (young_sizes g ++ size ∷ [])) =
        sym (ap (map (λ (a : Addr). a.0)) homes-push) ∙ places ∙ ap (λ ss. map (address_in regions.in_use) (places_from 0 ss)) (sizes-push g shape slots) in
        subst (λ ss. PacksAt regions.in_use ss (young_homes now_homes after)) (sym (sizes-push g shape slots))
        (subst (λ (xs : List Addr). PacksAt regions.in_use (young_sizes g ++ size ∷ []) xs) (sym homes-push)
        (packs-push s.regions.in_use regions.in_use (young_sizes g) (young_homes (homes s) g) size (record { 0 = at })
        (omega (arith, length-map (young_objects g) (size_of_object g.classes), length-map (young_objects g) (home_of (addresses_in s g))))
        k.heap.stands.packed rows-are in-row (λ q. in_use-grown (lists_of s.regions) (lists_of regions) at size q fits placing.places)))

    -- MEMORY

    abbrev own : ℕ → Bool
    own q = is_in window.Regions q

    rows-window : (q : ℕ) → list_any (holds_page q) regions.in_use ≡ true → is_in window.Regions q ≡ true
    rows-window q holds = filled-window (lists_of regions) q placing.space (list_any-append (holds_page q) regions.in_use regions.from ∙ or_left (list_any (holds_page q) regions.in_use) (list_any (holds_page q) regions.from) holds)

    keeps : Keeps between now t own
    keeps = is.keeps own (λ q low high.
        rows-window q (in_use-grown (lists_of s.regions) (lists_of regions) at size q fits placing.places
        ∙ or_right (list_any (holds_page q) s.regions.in_use) (covers at size q) (covered-page at size q (omega (arith, size-least g.classes made)) low high)))

    maps : MapsRun was between t (region.further_from s.regions.in_use at size) (region.further_pages s.regions.in_use size)
    maps = placing.pages.maps

    only : OnlyTable was now t
    only = only-trans was between now t (run-only was between t (region.further_from s.regions.in_use at size) (region.further_pages s.regions.in_use size) maps) (one-table between now t own keeps)

    -- a page that was mapped stays so
    page-between : (q : ℕ) → is_mapped was t q ≡ true → page_at between t q ≡ page_at was t q
    page-between q mapped = elim (side t (region.further_from s.regions.in_use at size) (region.further_pages s.regions.in_use size) t q) [
      | inl beside ↦ maps.others t q beside
      | inr here ↦ absurd (true≢false (sym mapped ∙ maps.fresh q here.1))
    ]

    still-mapped : (q : ℕ) → is_mapped was t q ≡ true → is_mapped now t q ≡ true
    still-mapped q mapped = keeps.mapped q ∙ ap (λ (o : Option Page). is_some o) (page-between q mapped) ∙ mapped

    still-alone : (q : ℕ) → HasOneSharer was t q → HasOneSharer now t q
    still-alone q alone = alone-then was now t q only (still-mapped q (sharer-mapped was t q k.heap.sound alone)) alone

    rows-alone : region.AreAlone now t (filled (lists_of regions))
    rows-alone q holds =
        let none : regions.from ≡ [] = placing.places.from ∙ k.heap.stands.no_from in
        let here : list_any (holds_page q) regions.in_use ≡ true = sym (ap (list_any (holds_page q)) (ap (λ (rows : List Row). regions.in_use ++ rows) none ∙ append-nil regions.in_use)) ∙ holds in
        elim (or_cases (list_any (holds_page q) s.regions.in_use) (covers at size q) (sym (in_use-grown (lists_of s.regions) (lists_of regions) at size q fits placing.places) ∙ here)) [
          | inl old ↦ still-alone q (k.heap.regions q (list_any-append (holds_page q) s.regions.in_use s.regions.from ∙ or_left (list_any (holds_page q) s.regions.in_use) (list_any (holds_page q) s.regions.from) old))
          | inr new' ↦
              let range = covers-range at size q (omega (arith, size-least g.classes made)) new' in
              let alone = room.alone q range.0 range.1 in
              keeps.alone q (sharer-mapped between t q placing.pages.sound alone) alone
        ]

    -- NAMES

    fills : (image_fill after ≡ image_fill g) × (zygote_fill after ≡ zygote_fill g)
    fills = fills-heap g shape slots false k.heap.formed.zygote

    page-same : (test : Place → Bool) → test place.Young ≡ false → (a : PageName) → is_page test after a ≡ is_page test g a
    page-same test none (Image j) = ap (λ n. nat_lt j (parts_for page_bytes n)) fills.0
    page-same test none (Zygote j) = ap (λ n. nat_lt j (parts_for page_bytes n)) fills.1
    page-same test none (Large n j) = any-push (has_page test g.classes n j) g.objects made (no-page test g.classes n j made none)

    stands-named : (a : PageName) → stands g a ≡ true → is_named g a ≡ true
    stands-named (Image j) there = there
    stands-named (Zygote j) there = there
    stands-named (Large n j) there = more-paged is_promoted has_slot promoted-slot g.classes g.objects n j there

    same-address : (a : PageName) → is_named g a ≡ true → page_named (addresses_in new after) a ≡ page_named (addresses_in s g) a
    same-address (Image j) there = refl
    same-address (Zygote j) there = refl
    same-address (Large n j) there =
        let it = paged-object has_slot g.classes g.objects n j there in
        ap (λ x. page_of x + j) (ap (addresses_in new after) (sym it.2) ∙ stays it.0 it.1 ∙ ap (addresses_in s g) it.2)

    -- a named page is as it was
    same-content : (a : PageName) → is_named g a ≡ true → page_at now t (page_named (addresses_in new after) a) ≡ page_at was t (page_named (addresses_in s g) a)
    same-content a there =
        let q : ℕ = page_named (addresses_in s g) a in
        let mapped = names-mapped (homes s) g k.heap.formed k.heap.house was t a k.heap.pages there in
        let off = named-beside (heap_of s []) was t g k.heap k.heap.formed.image_fits k.heap.formed.zygote_fits a there in
        ap (page_at now t) (same-address a there) ∙ keeps.others t q (inr off) ∙ page-between q mapped

    flags : HasFlags new now (record p { graph = root_written (with_object p.graph shape slots place.Young) root p.graph.next })
    flags = record {
      touched = λ a seal there.
          let before : stands g a ≡ true = sym (page-same is_promoted refl a) ∙ there in
          ap flag_of (same-content a (stands-named a before)) ∙ k.flags.touched a sealed before;
      waiting = λ a there. waiting a there;
    }
      where
        waiting : (a : PageName) → waits after a ≡ true → IsTrue (is_written now t (page_named (addresses_in new after) a))
        waiting (Image j) there = absurd (true≢false (sym there))
        waiting (Zygote j) there = absurd (true≢false (sym there))
        waiting (Large n j) there =
            let before : waits g (Large n j) ≡ true = sym (page-same is_waiting refl (Large n j)) ∙ there in
            ap flag_of (same-content (Large n j) (more-paged is_waiting has_slot waiting-slot g.classes g.objects n j before)) ∙ k.flags.waiting (Large n j) before

    -- ALL OF IT

    noted-same : (d : Card) → has_noted new d ≡ has_noted s d
    noted-same (card.Image j) = refl
    noted-same (card.Zygote j) = refl

    heap : HoldsHeap (heap_of new []) now t after
    heap =
        let half : length regions.in_use ≤ after.budget = let uses = packed.pack.used in let within = formed.regions in omega (arith, uses, within) in
        let count : regions.count ≡ 2 * after.budget = placing.places.count ∙ k.heap.stands.count in
        let young : length (young_objects after) ≡ length (young_objects g) + 1 = ap length (young-push g shape slots) ∙ length-append (young_objects g) (made ∷ []) in
        let objects : regions.objects ≡ length (young_objects after) = let more = placing.objects in let was = k.heap.stands.objects in omega (arith, more, was, young) in
        record {
          formed = formed;
          house = house;
          pages = record { objects = is.pages.objects; pages = is.pages.pages };
          stands = record {
            classes = k.heap.stands.classes;
            packed = packed;
            objects = objects;
            no_from = placing.places.from ∙ k.heap.stands.no_from;
            half = omega (arith, half, count);
            count = count;
            rows = k.heap.stands.rows ∙ sym (rows-push g.classes now_homes.slots 0 g.objects made (λ j rows. refl));
            roots = made-addresses s was p k new root shape slots place.Young stays at at-is;
          };
          regions = rows-alone;
          large = λ q holds. still-alone q (k.heap.large q holds);
          space = placing.space;
          sound = is.sound;
          live = keeps.live t ∙ maps.live t ∙ k.heap.live;
        }

    stands-made : StandsIn new now (record p { graph = root_written (with_object p.graph shape slots place.Young) root p.graph.next })
    stands-made = record {
      lives = k.lives;
      part = kept.part;
      outward = kept.outward;
      within = kept.within;
      counts = record {
        names = made-names s was p k new root shape slots place.Young stays at at-is;
        next = ap (λ n. n + 1) k.counts.next;
        numbered = omega arith;
        budget = k.counts.budget;
        is_sealed = k.counts.is_sealed;
        dumps = k.counts.dumps;
        objects = made-count s was p k new root shape slots place.Young;
        promoted = k.counts.promoted ∙ ap length (sym (made-promoted s was p k new root shape slots place.Young refl));
      };
      heap = heap;
      flags = flags;
      cards = heap-cards s was p k new root shape slots place.Young refl noted-same refl refl;
      alone = λ q unsealed. absurd (true≢false (sym sealed ∙ unsealed));
      image_is = k.image_is;
      zygote_is = k.zygote_is;
      image = record { fill = k.image.fill ∙ sym fills.0; starts = λ q. k.image.starts q ∙ sym (any-push (λ (o : Object). is_image_spot q o.place) g.objects made refl) };
      zygote = record { closed = k.zygote.closed; fill = k.zygote.fill ∙ sym fills.1; starts = λ q. k.zygote.starts q ∙ sym (any-push (λ (o : Object). is_spot q o.place) g.objects made refl) };
    }

    acts-made : Acts step p (after_make p root shape (Made (with_object p.graph shape slots place.Young) false))
    acts-made = record {
      stands = stands-made;
      page_table = refl;
      only = only;
      kept = λ a named quiet. ap (λ (o : Option Page). option_map (λ (page : Page). page.frame) o) (same-content a (sym (page-same has_slot refl a) ∙ named));
      made = λ a named new'.
          let none : is_touched (pages_of_new p.graph.sealed g shape) a ≡ false = ap (λ b. is_touched (pages_of_new b g shape) a) sealed ∙ ap (λ b. is_touched (slot_pages_if b g shape) a) small in
          absurd (true≢false (sym new' ∙ none));
    }

pub made-young : (c : Step) (p : Part) (root : List ℕ) (shape : Shape) (slots : List Stored) (placed : State) (between : Memory) (at : ℕ) → StandsIn c.old c.was p → p.graph.sealed ≡ true
    → IsKept (after_make p root shape (Made (with_object p.graph shape slots place.Young) false)).part → PlacesInRegions c.old placed c.was between at (size_in p.graph.classes shape)
    → HasPlace placed between p shape place.Young at → IsMade c p root shape slots place.Young placed between at → Acts c p (after_make p root shape (Made (with_object p.graph shape slots place.Young) false))
made-young c p root shape slots placed between at k sealed kept placing =
    subst (λ (x : State). PlacesInRegions c.old x c.was between at (size_in p.graph.classes shape) → HasPlace x between p shape place.Young at → IsMade c p root shape slots place.Young x between at
    → Acts c p (after_make p root shape (Made (with_object p.graph shape slots place.Young) false))) (sym placing.rest)
    (λ places room is.
    subst (λ (n : State). IsMade (record c { new = n }) p root shape slots place.Young (record c.old { regions = placed.regions }) between at
    → Acts (record c { new = n }) p (after_make p root shape (Made (with_object p.graph shape slots place.Young) false))) (sym is.rest)
    (acts-made c.old placed.regions c.was between c.now p root shape slots at k sealed kept places room) is) placing
