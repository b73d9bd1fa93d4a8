-- A process whose new object was placed in a slot of its own stands for its part with the object.
use Rattle.std.proofs.Common.{◌≡◌, ◌∙◌, ◌⊎◌, ℕ, ◌+◌, ◌*◌, ◌<◌, ◌≤◌, Bool, true, false, true≢false, ◌||◌, List, [], ◌∷◌, ◌++◌, Option, map, filter, length, nat_lt, is_some, option_map, refl, sym, ap, subst, inl, inr, arith}
use Rattle.std.specs.Prelude.{IsTrue}
use Rattle.std.specs.List.{list_any}
use Rattle.std.proofs.lemmas.Bool.{and_from, and_parts, eqb-true, false_from_ne_true, le-leb, leb-true, lt-ltb, ltb-true, or_cases}
use Rattle.std.proofs.lemmas.List.Elements.{filter-append}
use Rattle.std.proofs.Math.Seq.{get_or-append_seam}
use Rattle.std.specs.Prelude.{nat_eq, nat_le, slice_index, ◌&&◌}
use Rattle.std.proofs.lemmas.List.Folds.{list_any-append}
use Rattle.std.proofs.lemmas.List.{append-nil, get_or_append_left, length-map, map-append}
use Rattle.class_layout.specs.Placing.{IsIn}
use Rattle.page_tables.specs.declared.address.Addr.{Addr}
use Rattle.page_tables.specs.Address.{page_of}
use Rattle.cow_pages.specs.Memory.{flag_of, frame_at, is_mapped, is_written, page_at, HasOneSharer, Memory, Page}
use Rattle.cow_pages.specs.Only.{OnlyTable}
use Rattle.cow_pages.proofs.OnlyLemmas.{only-trans}
use Rattle.heap_graph.specs.declared.names.Place.{Place}
use Rattle.heap_graph.specs.declared.names.Place.TheVariants as place
use Rattle.heap_graph.specs.declared.names.Shape.{Shape}
use Rattle.heap_graph.specs.declared.names.Stored.{Stored}
use Rattle.heap_graph.specs.Allocation.{with_object}
use Rattle.heap_graph.specs.Allocation.Allocated.{Made}
use Rattle.heap_graph.specs.Formed.{IsFormed, SuitsShape}
use Rattle.heap_graph.specs.Graph.{image_fill, is_young, size_of_object, zygote_fill, Graph, Object}
use Rattle.heap_graph.specs.Packing.{end_from, used, young_objects, young_sizes}
use Rattle.heap_graph.specs.Sizes.{is_large, parts_for, size_in, unrounded}
use Rattle.heap_graph.proofs.Sizes.{not-large, size-least, unrounded-least}
use Rattle.model_numbers.specs.Numbers.{large_base, large_slot_bytes, page_bytes, region_bytes}
use Rattle.heap_world.specs.declared.names.PageName.{PageName}
use Rattle.heap_world.specs.declared.names.PageName.TheVariants.{Image, Zygote, Large}
use Rattle.heap_world.specs.declared.names.Card.{Card}
use Rattle.heap_world.specs.declared.names.Card.TheVariants as card
use Rattle.heap_world.specs.Acts.{after_make, pages_of_new, root_written, slot_pages_if}
use Rattle.heap_world.specs.Pages.{is_touched}
use Rattle.heap_world.specs.Part.{Part}
use Rattle.heap_world.proofs.Standing.{in-count, in-left}
use Rattle.world_laws.proofs.PageLists.{in_count_at}
use Rattle.world_laws.specs.Named.{has_page, has_slot, is_named, is_page, is_paged, is_promoted, is_waiting, stands, waits}
use Rattle.world_laws.proofs.Named.{fills-heap}
use Rattle.address_table.specs.Computed.{large_count, slot_at, Homes, HouseAll}
use Rattle.address_table.proofs.Behind.{last_end}
use Rattle.address_table.proofs.Beside.{all-in, not-too-large, shape-in}
use Rattle.page_runs.specs.Runs.{IsInRun, MapsRun}
use Rattle.image_space.specs.Space.{pages_up_to}
use Rattle.object_view.specs.Changes.{pages_in}
use Rattle.page_runs.proofs.RunLemmas.{run-only, side}
use Rattle.raw_objects.specs.Keeps.{Keeps}
use Rattle.raw_objects.proofs.Kept.{one-table}
use Rattle.page_runs.specs.Covered.{covers}
use Rattle.graph_pages.specs.Pages.{page_named}
use Rattle.graph_pages.proofs.Grown.{grown-same}
use Rattle.graph_pages.proofs.Lists.{in-filter, in-last}
use Rattle.graph_pages.proofs.Named.{names-mapped}
use Rattle.large_objects.proofs.LawLemmas.{row-covers}
use Rattle.object_moves.specs.Copies.{PacksAt}
use Rattle.object_moves.proofs.One.{covered-page}
use Rattle.evacuate.specs.Stands.{home_of, homes_in, rows_from, young_homes, HoldsHeap}
use Rattle.evacuate.proofs.Members.{map-same}
use Rattle.large_objects.specs.declared.rows.LargeRow.{LargeRow}
use Rattle.large_objects.specs.Pages as large
use Rattle.large_objects.specs.Rows as large_rows
use Rattle.root_list.specs.Roots.{with_root}
use Rattle.zygote_compact.specs.Spots.{is_spot}
use Rattle.process_state.specs.Acts.{Acts, Step}
use Rattle.process_state.specs.Cards.{has_noted}
use Rattle.process_state.specs.Stands.{is_image_spot, HasFlags, StandsIn}
use Rattle.process_state.specs.State.{addresses_in, heap_of, State}
use Rattle.process_state.proofs.Pages.{promoted-slot, waiting-slot}
use Rattle.process_state.proofs.Same.{sharer-mapped}
use Rattle.process_steps.specs.Kept.{IsKept}
use Rattle.process_steps.specs.Placing.{homes, HasPlace, IsMade, PlacesInSlot}
use Rattle.process_steps.proofs.Growing.{count-push, table-last, table-same}
use Rattle.process_steps.proofs.LargeRows.{rows-count, rows-grown}
use Rattle.process_steps.proofs.WithObject.{alone-then, any-push, covers-range, heap-cards, made-addresses, made-count, made-names, made-promoted, more-paged, no-page, paged-object}

module _ (s : State) (rows : List LargeRow) (was between now : Memory) (p : Part) (root : List ℕ) (shape : Shape) (slots : List Stored) (at : ℕ) (k : StandsIn s was p) (sealed : p.graph.sealed ≡ true) where
  abbrev placed : State
  placed = record s { rows = rows }

  abbrev new : State
  new = record s { rows = rows; roots = with_root s.roots root (record { 0 = at }); next = s.next + 1; objects = s.objects + 1 }

  abbrev step : Step
  step = record { old = s; new = record s { rows = rows; roots = with_root s.roots root (record { 0 = at }); next = s.next + 1; objects = s.objects + 1 }; was = was; now = now }

  abbrev g : Graph
  g = p.graph

  abbrev t : ℕ
  t = s.page_table

  abbrev made : Object
  made = record { number = p.graph.next; shape = shape; slots = slots; place = place.Large }

  abbrev after : Graph
  after = root_written (with_object p.graph shape slots place.Large) root p.graph.next

  abbrev size : ℕ
  size = size_in p.graph.classes shape

  abbrev now_homes : Homes
  now_homes = homes_in s.regions.in_use rows

  module _ (kept : IsKept (record p { graph = root_written (with_object p.graph shape slots place.Large) root p.graph.next })) (placing : PlacesInSlot s (record s { rows = rows }) was between at (unrounded p.graph.classes shape))
      (room : HasPlace (record s { rows = rows }) between p shape place.Large at) (is : IsMade step p root shape slots place.Large (record s { rows = rows }) between at) where
    formed : IsFormed after
    formed = kept.part.formed

    big : is_large p.graph.classes shape ≡ true
    big = all-in (λ (o : Object). SuitsShape g.classes o o.place) (g.objects ++ made ∷ []) made (in-last g.objects made) formed.places

    abbrev bytes : ℕ
    bytes = unrounded p.graph.classes shape

    bytes-fit : large_rows.IsBytes (unrounded p.graph.classes shape)
    bytes-fit =
        let few = not-large g.classes shape (not-too-large g.classes shape (shape-in g.classes (g.objects ++ made ∷ []) made (in-last g.objects made) formed.objects)) in
        record { some = omega (arith, unrounded-least g.classes shape); most = omega (arith, few) }

    abbrev row : LargeRow
    row = record { number = s.next; slot = placing.places.slot; bytes = unrounded p.graph.classes shape; promoted = false; marked = false }

    -- ADDRESSES

    slots-are : now_homes.slots ≡ map (λ (r : LargeRow). r.slot) s.rows ++ placing.places.slot ∷ []
    slots-are = ap (map (λ (r : LargeRow). r.slot)) placing.places.rows ∙ map-append (λ (r : LargeRow). r.slot) s.rows (row ∷ [])

    same-slot : (j : ℕ) → j < length (map (λ (r : LargeRow). r.slot) s.rows) → slice_index now_homes.slots j ≡ slice_index (homes s).slots j
    same-slot j less = ap (λ xs. slice_index xs j) slots-are ∙ get_or_append_left (map (λ (r : LargeRow). r.slot) s.rows) (placing.places.slot ∷ []) 0 j less

    agree : (j : ℕ) → j < length (map (λ (r : LargeRow). r.slot) s.rows) → slot_at now_homes.slots j ≡ slot_at (homes s).slots j
    agree j less = ap (λ n. large_base + n * large_slot_bytes) (same-slot j less)

    stays : (o : Object) → IsIn o g.objects → addresses_in new after o.number ≡ addresses_in s g o.number
    stays o there =
        (grown-same now_homes g shape slots place.Large k.heap.formed).numbers o there
        ∙ table-same (homes s) now_homes g.classes (last_end g.classes 0 g.objects) (length (map (λ (r : LargeRow). r.slot) s.rows)) (λ q low. refl) agree 0 0 g.objects o.number (omega arith) k.heap.house.for_large

    at-is : addresses_in new after g.next ≡ at
    at-is = table-last now_homes g.classes g.next (record made { slots = [] }) made refl (λ end large. refl) 0 0 g.objects ∙ room.address

    young-keep : (stored : List Stored) → young_objects (with_object g shape stored place.Large) ≡ young_objects g
    young-keep stored = filter-append (λ (o : Object). is_young o.place) g.objects (record made { slots = stored } ∷ []) ∙ append-nil (young_objects g)

    house : HouseAll now_homes after
    house =
        let same : used after ≡ used (with_object g shape [] place.Large) = ap (λ os. parts_for region_bytes (end_from 0 (map (size_of_object g.classes) os))) (young-keep slots ∙ sym (young-keep [])) in
        let count : large_count 0 after.objects ≡ large_count 0 (with_object g shape [] place.Large).objects = count-push 0 g.objects made ∙ sym (count-push 0 g.objects (record made { slots = [] })) in
        let young = room.house.for_young in
        let slotted = room.house.for_large in
        record { regions = room.house.regions; slots = room.house.slots; for_young = omega (arith, same, young); for_large = omega (arith, count, slotted) }

    -- ROWS AND REGIONS

    homes-keep : young_homes now_homes after ≡ young_homes (homes s) g
    homes-keep =
        ap (map (home_of (addresses_in new after))) (young-keep slots)
        ∙ map-same (home_of (addresses_in new after)) (home_of (addresses_in s g)) (young_objects g) (λ o there. ap (λ (n : ℕ). record { 0 = n }) (stays o (in-filter (λ (o : Object). is_young o.place) g.objects o there).0))

    packed : PacksAt s.regions.in_use (young_sizes after) (young_homes now_homes after)
    packed =
        subst (λ (os : List Object). PacksAt s.regions.in_use (map (size_of_object g.classes) os) (young_homes now_homes after)) (sym (young-keep slots))
        (subst (λ (xs : List Addr). PacksAt s.regions.in_use (young_sizes g) xs) (sym homes-keep) k.heap.stands.packed)

    counted : large_count 0 g.objects ≡ length s.rows
    counted = let rows-were = ap length k.heap.stands.rows in omega (arith, rows-count g.classes (homes s).slots 0 g.objects, rows-were)

    last-slot : slice_index now_homes.slots (large_count 0 g.objects) ≡ placing.places.slot
    last-slot =
        ap (λ xs. slice_index xs (large_count 0 g.objects)) slots-are
        ∙ ap (λ j. slice_index (map (λ (r : LargeRow). r.slot) s.rows ++ placing.places.slot ∷ []) j) (let same : large_count 0 g.objects ≡ length (map (λ (r : LargeRow). r.slot) s.rows) = omega (arith, counted, length-map s.rows (λ (r : LargeRow). r.slot)) in same)
        ∙ get_or-append_seam (map (λ (r : LargeRow). r.slot) s.rows) placing.places.slot [] 0

    rows-are : rows ≡ rows_from g.classes now_homes.slots 0 after.objects
    rows-are =
        placing.places.rows ∙ ap (λ n. s.rows ++ record row { number = n } ∷ []) k.counts.next
        ∙ ap (λ n. s.rows ++ record row { number = g.next; slot = n } ∷ []) (sym last-slot)
        ∙ ap (λ (rs : List LargeRow). rs ++ record row { number = g.next; slot = slice_index now_homes.slots (large_count 0 g.objects) } ∷ []) k.heap.stands.rows
        ∙ sym (rows-grown g.classes (homes s).slots now_homes.slots (length (map (λ (r : LargeRow). r.slot) s.rows)) same-slot 0 g.objects made refl k.heap.house.for_large)

    covered-row : (q : ℕ) → page_of at ≤ q → q < page_of at + pages_in at (at + size) → large.holds_page q row ≡ true
    covered-row q low high =
        row-covers row q bytes-fit ∙ ap (λ a. covers a size q) (sym placing.places.spot) ∙ covered-page at size q (omega (arith, size-least g.classes made)) low high

    row-covered : (q : ℕ) → large.holds_page q row ≡ true → (page_of at ≤ q) × (q < page_of at + pages_in at (at + size))
    row-covered q holds =
        covers-range at size q (omega (arith, size-least g.classes made)) (ap (λ a. covers a size q) placing.places.spot ∙ sym (row-covers row q bytes-fit) ∙ holds)

    -- MEMORY

    abbrev own : ℕ → Bool
    own q = large.holds_page q row

    keeps : Keeps between now t own
    keeps = is.keeps own covered-row

    maps : MapsRun was between t (page_of at) (pages_up_to (unrounded p.graph.classes shape))
    maps = placing.pages.maps

    only : OnlyTable was now t
    only = only-trans was between now t (run-only was between t (page_of at) (pages_up_to bytes) maps) (one-table between now t own keeps)

    in-run : (q : ℕ) → large.holds_page q row ≡ true → IsInRun (page_of at) (pages_up_to (unrounded p.graph.classes shape)) q
    in-run q holds =
        let range = and_parts (nat_le (page_of (large_rows.slot_base row.slot)) q) (nat_lt q (page_of (large_rows.slot_base row.slot) + pages_up_to bytes)) holds in
        let spot = placing.places.spot in
        record { from = omega (arith, leb-true _ _ range.0, spot); to = omega (arith, ltb-true _ _ range.1, spot) }

    -- a page that was mapped is none of the object's
    off-row : (q : ℕ) → is_mapped was t q ≡ true → large.holds_page q row ≡ false
    off-row q mapped = false_from_ne_true (large.holds_page q row) (λ holds. true≢false (sym mapped ∙ maps.fresh q (in-run q holds)))

    run-alone : (q : ℕ) → IsInRun (page_of at) (pages_up_to (unrounded p.graph.classes shape)) q → HasOneSharer now t q
    run-alone q here = let alone = maps.alone q here in keeps.alone q (sharer-mapped between t q placing.pages.sound alone) alone

    -- a page that was mapped stays so
    page-between : (q : ℕ) → is_mapped was t q ≡ true → page_at between t q ≡ page_at was t q
    page-between q mapped = elim (side t (page_of at) (pages_up_to bytes) t q) [
      | inl beside ↦ maps.others t q beside
      | inr here ↦ absurd (true≢false (sym mapped ∙ maps.fresh q here.1))
    ]

    still-mapped : (q : ℕ) → is_mapped was t q ≡ true → is_mapped now t q ≡ true
    still-mapped q mapped = keeps.mapped q ∙ ap (λ (o : Option Page). is_some o) (page-between q mapped) ∙ mapped

    still-alone : (q : ℕ) → HasOneSharer was t q → HasOneSharer now t q
    still-alone q alone = alone-then was now t q only (still-mapped q (sharer-mapped was t q k.heap.sound alone)) alone

    rows-alone : large.AreAlone now t (filter large_rows.waits rows)
    rows-alone q holds =
        let parted : filter large_rows.waits rows ≡ filter large_rows.waits s.rows ++ row ∷ [] = ap (filter large_rows.waits) placing.places.rows ∙ filter-append large_rows.waits s.rows (row ∷ []) in
        let here : (list_any (large.holds_page q) (filter large_rows.waits s.rows) || (large.holds_page q row || false)) ≡ true =
        sym (ap (list_any (large.holds_page q)) parted ∙ list_any-append (large.holds_page q) (filter large_rows.waits s.rows) (row ∷ [])) ∙ holds in
        elim (or_cases (list_any (large.holds_page q) (filter large_rows.waits s.rows)) (large.holds_page q row || false) here) [
          | inl old ↦ still-alone q (k.heap.large q old)
          | inr last ↦ elim (or_cases (large.holds_page q row) false last) [ inl one ↦ run-alone q (in-run q one) | inr none ↦ absurd (true≢false (sym none)) ]
        ]

    -- NAMES

    fills : (image_fill after ≡ image_fill g) × (zygote_fill after ≡ zygote_fill g)
    fills = fills-heap g shape slots true k.heap.formed.zygote

    page-same : (test : Place → Bool) → test place.Large ≡ false → (a : PageName) → is_page test after a ≡ is_page test g a
    page-same test none (Image j) = ap (λ n. nat_lt j (parts_for page_bytes n)) fills.0
    page-same test none (Zygote j) = ap (λ n. nat_lt j (parts_for page_bytes n)) fills.1
    page-same test none (Large n j) = any-push (has_page test g.classes n j) g.objects made (no-page test g.classes n j made none)

    stands-named : (a : PageName) → stands g a ≡ true → is_named g a ≡ true
    stands-named (Image j) there = there
    stands-named (Zygote j) there = there
    stands-named (Large n j) there = more-paged is_promoted has_slot promoted-slot g.classes g.objects n j there

    same-address : (a : PageName) → is_named g a ≡ true → page_named (addresses_in new after) a ≡ page_named (addresses_in s g) a
    same-address (Image j) there = refl
    same-address (Zygote j) there = refl
    same-address (Large n j) there =
        let it = paged-object has_slot g.classes g.objects n j there in
        ap (λ x. page_of x + j) (ap (addresses_in new after) (sym it.2) ∙ stays it.0 it.1 ∙ ap (addresses_in s g) it.2)

    -- a named page is as it was
    same-content : (a : PageName) → is_named g a ≡ true → page_at now t (page_named (addresses_in new after) a) ≡ page_at was t (page_named (addresses_in s g) a)
    same-content a there =
        let q : ℕ = page_named (addresses_in s g) a in
        let mapped = names-mapped (homes s) g k.heap.formed k.heap.house was t a k.heap.pages there in
        let off = off-row q mapped in
        ap (page_at now t) (same-address a there) ∙ keeps.others t q (inr off) ∙ page-between q mapped

    -- a page of the new graph was there, or is one of the object
    page-or : (test : Place → Bool) (n j : ℕ) → is_paged test g.classes after.objects n j ≡ true → (is_paged test g.classes g.objects n j ≡ true) ⊎ ((n ≡ g.next) × (j < pages_up_to (unrounded p.graph.classes shape)))
    page-or test n j there =
        elim (or_cases (is_paged test g.classes g.objects n j) (has_page test g.classes n j made || false) (sym (list_any-append (has_page test g.classes n j) g.objects (made ∷ [])) ∙ there)) [
          | inl old ↦ inl old
          | inr last ↦ elim (or_cases (has_page test g.classes n j made) false last) [
            | inl one ↦
                let parts = and_parts (nat_eq g.next n) (test place.Large && nat_lt j (parts_for page_bytes bytes)) one in
                let count = ltb-true j (parts_for page_bytes bytes) (and_parts (test place.Large) (nat_lt j (parts_for page_bytes bytes)) parts.1).1 in
                inr (sym (eqb-true g.next n parts.0), omega (arith, count))
            | inr none ↦ absurd (true≢false (sym none))
          ]
        ]

    new-page : (j : ℕ) → page_named (addresses_in new after) (Large g.next j) ≡ page_of at + j
    new-page j = ap (λ x. page_of x + j) at-is

    new-run : (j : ℕ) → j < pages_up_to (unrounded p.graph.classes shape) → IsInRun (page_of at) (pages_up_to (unrounded p.graph.classes shape)) (page_of at + j)
    new-run j low = record { from = omega arith; to = omega (arith, low) }

    new-written : (j : ℕ) → j < pages_up_to (unrounded p.graph.classes shape) → IsTrue (is_written now t (page_of at + j))
    new-written j low =
        let spot = placing.places.spot in
        let base : ℕ = page_of (large_rows.slot_base row.slot) in
        let from : base ≤ page_of at + j = omega (arith, spot) in
        let before : page_of at + j < base + pages_up_to bytes = omega (arith, spot, low) in
        let holds : large.holds_page (page_of at + j) row ≡ true = and_from (nat_le base (page_of at + j)) (nat_lt (page_of at + j) (base + pages_up_to bytes)) (le-leb base (page_of at + j) from) (lt-ltb (page_of at + j) (base + pages_up_to bytes) before) in
        let range = row-covered (page_of at + j) holds in
        is.written (page_of at + j) range.0 range.1

    flags : HasFlags new now (record p { graph = root_written (with_object p.graph shape slots place.Large) root p.graph.next })
    flags = record {
      touched = λ a seal there.
          let before : stands g a ≡ true = sym (page-same is_promoted refl a) ∙ there in
          ap flag_of (same-content a (stands-named a before)) ∙ k.flags.touched a sealed before;
      waiting = λ a there. waiting a there;
    }
      where
        waiting : (a : PageName) → waits after a ≡ true → IsTrue (is_written now t (page_named (addresses_in new after) a))
        waiting (Image j) there = absurd (true≢false (sym there))
        waiting (Zygote j) there = absurd (true≢false (sym there))
        waiting (Large n j) there = elim (page-or is_waiting n j there) [
          | inl before ↦ ap flag_of (same-content (Large n j) (more-paged is_waiting has_slot waiting-slot g.classes g.objects n j before)) ∙ k.flags.waiting (Large n j) before
          | inr new' ↦
              let named : page_named (addresses_in new after) (Large n j) ≡ page_of at + j = ap (λ m. page_of (addresses_in new after m) + j) new'.0 ∙ new-page j in
              ap (is_written now t) named ∙ new-written j new'.1
        ]

    -- ALL OF IT

    noted-same : (d : Card) → has_noted new d ≡ has_noted s d
    noted-same (card.Image j) = refl
    noted-same (card.Zygote j) = refl

    heap : HoldsHeap (heap_of new []) now t after
    heap =
        record {
          formed = formed;
          house = house;
          pages = record { objects = is.pages.objects; pages = is.pages.pages };
          stands = record {
            classes = k.heap.stands.classes;
            packed = packed;
            objects = k.heap.stands.objects ∙ ap length (sym (young-keep slots));
            no_from = k.heap.stands.no_from;
            half = k.heap.stands.half;
            count = k.heap.stands.count;
            rows = rows-are;
            roots = made-addresses s was p k new root shape slots place.Large stays at at-is;
          };
          regions = λ q holds. still-alone q (k.heap.regions q holds);
          large = rows-alone;
          space = k.heap.space;
          sound = is.sound;
          live = keeps.live t ∙ maps.live t ∙ k.heap.live;
        }

    stands-made : StandsIn new now (record p { graph = root_written (with_object p.graph shape slots place.Large) root p.graph.next })
    stands-made = record {
      lives = k.lives;
      part = kept.part;
      outward = kept.outward;
      within = kept.within;
      counts = record {
        names = made-names s was p k new root shape slots place.Large stays at at-is;
        next = ap (λ n. n + 1) k.counts.next;
        numbered = omega arith;
        budget = k.counts.budget;
        is_sealed = k.counts.is_sealed;
        dumps = k.counts.dumps;
        objects = made-count s was p k new root shape slots place.Large;
        promoted = k.counts.promoted ∙ ap length (sym (made-promoted s was p k new root shape slots place.Large refl));
      };
      heap = heap;
      flags = flags;
      cards = heap-cards s was p k new root shape slots place.Large refl noted-same refl refl;
      alone = λ q unsealed. absurd (true≢false (sym sealed ∙ unsealed));
      image_is = k.image_is;
      zygote_is = k.zygote_is;
      image = record { fill = k.image.fill ∙ sym fills.0; starts = λ q. k.image.starts q ∙ sym (any-push (λ (o : Object). is_image_spot q o.place) g.objects made refl) };
      zygote = record { closed = k.zygote.closed; fill = k.zygote.fill ∙ sym fills.1; starts = λ q. k.zygote.starts q ∙ sym (any-push (λ (o : Object). is_spot q o.place) g.objects made refl) };
    }

    acts-made : Acts step p (after_make p root shape (Made (with_object p.graph shape slots place.Large) false))
    acts-made = record {
      stands = stands-made;
      page_table = refl;
      only = only;
      kept = λ a named quiet. kept-frame a named quiet;
      made = λ a named new'. made-alone a (subst (λ b. is_touched (slot_pages_if b g shape) a ≡ true) big (subst (λ b. is_touched (pages_of_new b g shape) a ≡ true) sealed new'));
    }
      where
        object-page : (n j : ℕ) → n ≡ g.next → j < pages_up_to (unrounded p.graph.classes shape) → is_touched (pages_of_new p.graph.sealed g shape ++ []) (Large n j) ≡ true
        object-page n j same low =
            ap (λ b. is_touched (pages_of_new b g shape ++ []) (Large n j)) sealed ∙ ap (λ b. is_touched (slot_pages_if b g shape ++ []) (Large n j)) big
            ∙ in-left (slot_pages_if true g shape) [] (Large n j)
            (ap (λ m. is_touched (slot_pages_if true g shape) (Large m j)) same ∙ in-count (Large g.next) 0 (parts_for page_bytes bytes) j (omega arith) (omega (arith, low)))

        frames : (a : PageName) → is_named g a ≡ true → frame_at now t (page_named (addresses_in new after) a) ≡ frame_at was t (page_named (addresses_in s g) a)
        frames a before = ap (λ (o : Option Page). option_map (λ (page : Page). page.frame) o) (same-content a before)

        kept-frame : (a : PageName) → is_named after a ≡ true → is_touched (pages_of_new p.graph.sealed g shape ++ []) a ≡ false
            → frame_at now t (page_named (addresses_in new after) a) ≡ frame_at was t (page_named (addresses_in s g) a)
        kept-frame (Image j) named quiet = frames (Image j) (ap (λ n. nat_lt j (parts_for page_bytes n)) (sym fills.0) ∙ named)
        kept-frame (Zygote j) named quiet = frames (Zygote j) (ap (λ n. nat_lt j (parts_for page_bytes n)) (sym fills.1) ∙ named)
        kept-frame (Large n j) named quiet = elim (page-or has_slot n j named) [
          | inl before ↦ frames (Large n j) before
          | inr new' ↦ absurd (true≢false (sym (object-page n j new'.0 new'.1) ∙ quiet))
        ]

        made-alone : (a : PageName) → is_touched (slot_pages_if true g shape) a ≡ true → HasOneSharer now t (page_named (addresses_in new after) a)
        made-alone a there =
            let it = in_count_at (Large g.next) 0 (parts_for page_bytes bytes) a there in
            let named : page_named (addresses_in new after) a ≡ page_of at + it.0 = ap (page_named (addresses_in new after)) it.3 ∙ new-page it.0 in
            subst (HasOneSharer now t) (sym named) (run-alone (page_of at + it.0) (new-run it.0 (omega (arith, it.2))))

pub made-large : (c : Step) (p : Part) (root : List ℕ) (shape : Shape) (slots : List Stored) (placed : State) (between : Memory) (at : ℕ) → StandsIn c.old c.was p → p.graph.sealed ≡ true
    → IsKept (after_make p root shape (Made (with_object p.graph shape slots place.Large) false)).part → PlacesInSlot c.old placed c.was between at (unrounded p.graph.classes shape)
    → HasPlace placed between p shape place.Large at → IsMade c p root shape slots place.Large placed between at → Acts c p (after_make p root shape (Made (with_object p.graph shape slots place.Large) false))
made-large c p root shape slots placed between at k sealed kept placing =
    subst (λ (x : State). PlacesInSlot c.old x c.was between at (unrounded p.graph.classes shape) → HasPlace x between p shape place.Large at → IsMade c p root shape slots place.Large x between at
    → Acts c p (after_make p root shape (Made (with_object p.graph shape slots place.Large) false))) (sym placing.rest)
    (λ places room is.
    subst (λ (n : State). IsMade (record c { new = n }) p root shape slots place.Large (record c.old { rows = placed.rows }) between at
    → Acts (record c { new = n }) p (after_make p root shape (Made (with_object p.graph shape slots place.Large) false))) (sym is.rest)
    (acts-made c.old placed.rows c.was between c.now p root shape slots at k sealed kept places room) is) placing
