-- Room for an object that was placed in the regions.
use Rattle.std.proofs.Common.{◌≡◌, ◌∙◌, ℕ, ◌+◌, ◌-◌, ◌*◌, ◌<◌, ◌≤◌, Bool, true, false, true≢false, List, [], ◌∷◌, ◌++◌, Option, None, Some, map, refl, sym, ap, subst, inl, inr, arith, cond, is_some, nat_eq}
use Rattle.std.specs.Prelude.{nat_le, nat_lt, ◌||◌, ◌&&◌, ◌%◌, All}
use Rattle.std.proofs.lemmas.List.{length-map}
use Rattle.std.specs.List.{list_any, IsDistinct}
use Rattle.std.proofs.lemmas.Bool.{and_from, and_parts, cases_Bool, cases_order, eqb-false, le-leb, lt-ltb, ltb-true, or_right}
use Rattle.std.proofs.lemmas.Map.Keys.{apart_from_distinct}
use Rattle.model_numbers.specs.Numbers.{region_bytes}
use Rattle.page_tables.specs.declared.address.Window.{Window}
use Rattle.page_tables.specs.declared.address.Window.TheVariants as window
use Rattle.page_tables.specs.Address.{is_in, page_of}
use Rattle.cow_pages.specs.Memory.{is_mapped, page_at, Memory}
use Rattle.cow_pages.specs.View.{view_of}
use Rattle.heap_graph.specs.declared.names.Place.TheVariants as place
use Rattle.heap_graph.specs.declared.names.Shape.{Shape}
use Rattle.heap_graph.specs.Allocation.{with_object}
use Rattle.heap_graph.specs.Formed.{IsFormed, SuitsShape}
use Rattle.heap_graph.specs.Graph.{Graph, Object}
use Rattle.heap_graph.specs.Packing as packing
use Rattle.heap_graph.specs.Packing.{end_from, used, young_sizes}
use Rattle.heap_graph.specs.Sizes.{is_large, parts_for, size_in}
use Rattle.heap_graph.proofs.Sizes.{size-least, young-packed}
use Rattle.heap_world.specs.Part.{Part}
use Rattle.object_view.specs.Changes.{pages_in, AreAlone}
use Rattle.object_view.specs.Objects.{IsSpace}
use Rattle.page_runs.specs.Covered.{covers}
use Rattle.page_runs.specs.Runs.{IsInRun}
use Rattle.page_runs.proofs.RunLemmas.{run-only, side}
use Rattle.image_space.specs.Space.{pages_up_to}
use Rattle.region_lists.specs.Rows.{last_of, Row}
use Rattle.region_lists.proofs.MoveLemmas.{all-left}
use Rattle.region_space.specs.Packed.{address_in, end_of_rows, Pack}
use Rattle.region_space.specs.Space as region
use Rattle.region_space.specs.Space.{filled, holds_page, lists_of, IsSize, Space}
use Rattle.region_space.proofs.LieLemmas as lie
use Rattle.region_space.proofs.PackLemmas.{object-stays, pack-more, pack-spot}
use Rattle.region_space.proofs.RoomLemmas.{last-holds}
use Rattle.region_space.proofs.WalkLemmas.{in_use-apart, in_use-filled}
use Rattle.object_collection.proofs.Running.{filled-window}
use Rattle.address_table.specs.Computed.{large_count, packed_at, table_of, AreNumbers, Homes, HouseAll}
use Rattle.address_table.proofs.Behind.{last_end}
use Rattle.address_table.proofs.Beside.{all-in, not-too-large, shape-in}
use Rattle.raw_objects.proofs.Paging.{raws-run}
use Rattle.graph_pages.specs.Holds.{raws_under, HoldsGraph, SameTable}
use Rattle.graph_pages.specs.Pages.{has_bytes_in, MapsWindow}
use Rattle.graph_pages.proofs.Computed.{same-tables}
use Rattle.graph_pages.proofs.Graphs.{graph-among, graph-raws, graph-same, raws-graph, tells-apart}
use Rattle.graph_pages.proofs.Grown.{grown-same}
use Rattle.graph_pages.proofs.Lists.{in-last}
use Rattle.graph_pages.proofs.Numbers.{numbers-differ}
use Rattle.graph_pages.proofs.Paged.{pages-grown}
use Rattle.evacuate.specs.Stands.{homes_in}
use Rattle.evacuate.proofs.Can.{held-regions}
use Rattle.process_state.specs.Stands.{StandsIn}
use Rattle.process_state.specs.State.{heap_of, State}
use Rattle.process_steps.specs.Placing.{HasPlace, PlacesInRegions}
use Rattle.process_steps.proofs.Growing.{count-push, table-same}
use Rattle.process_steps.proofs.ImageRoom.{absorbs}
use Rattle.process_steps.proofs.MadeYoung.{last-is}
use Rattle.process_steps.proofs.Packing.{sizes-push}
use Rattle.process_steps.proofs.SlotRoom.{table-new}
use Rattle.process_steps.proofs.WithObject.{alone-then}

-- numbers below so many, each once
numbers-from : (most : ℕ) (ks : List ℕ) → All (λ n. n < most) ks → IsDistinct nat_eq ks → AreNumbers most ks
numbers-from most ks within apart = (
  (λ i below. within i 0 below),
  (λ i j i_below j_below same. elim (cases_order i j) [
    | inl e ↦ e
    | inr o ↦ elim o [
      | inl low ↦ absurd (eqb-false _ _ (apart_from_distinct nat_eq ks i j 0 apart low j_below) same)
      | inr high ↦ absurd (eqb-false _ _ (apart_from_distinct nat_eq ks j i 0 apart high i_below) (sym same))
    ]
  ]),
)

-- the further pages are of the object
run-covers : (rows : List Row) (number at size q : ℕ) → 8 ≤ size → at ≡ region.spot_in rows number size → IsInRun (region.further_from rows at size) (region.further_pages rows size) q → covers at size q ≡ true
run-covers rows number at size q some = by (region.has_room (last_of rows) size) (last_of rows)
  where
    by : (b : Bool) (o : Option Row) → at ≡ region.spot_if b o number
        → IsInRun (page_of (at - region.fill_if b o) + pages_up_to (region.fill_if b o)) (pages_up_to (region.fill_if b o + size) - pages_up_to (region.fill_if b o)) q → covers at size q ≡ true
    by true (Some row) is run =
        let low : page_of at ≤ q = omega (arith, run.from, is) in
        let high : q ≤ page_of (at + size - 1) = omega (arith, run.from, run.to, is, some) in
        and_from (nat_le (page_of at) q) (nat_le q (page_of (at + size - 1))) (le-leb _ _ low) (le-leb _ _ high)
    by true None is run =
        let low : page_of at ≤ q = omega (arith, run.from, is) in
        let high : q ≤ page_of (at + size - 1) = omega (arith, run.from, run.to, is, some) in
        and_from (nat_le (page_of at) q) (nat_le q (page_of (at + size - 1))) (le-leb _ _ low) (le-leb _ _ high)
    by false o is run =
        let low : page_of at ≤ q = omega (arith, run.from, is) in
        let high : q ≤ page_of (at + size - 1) = omega (arith, run.from, run.to, is, some) in
        and_from (nat_le (page_of at) q) (nat_le q (page_of (at + size - 1))) (le-leb _ _ low) (le-leb _ _ high)

module _ (s : State) (regions : Space) (was between : Memory) (p : Part) (shape : Shape) (at : ℕ) (k : StandsIn s was p)
    (formed : IsFormed (with_object p.graph shape [] place.Young)) (placing : PlacesInRegions s (record s { regions = regions }) was between at (size_in p.graph.classes shape)) where
  abbrev t : ℕ
  t = s.page_table

  abbrev size : ℕ
  size = size_in p.graph.classes shape

  abbrev old_homes : Homes
  old_homes = homes_in s.regions.in_use s.rows

  abbrev new_homes : Homes
  new_homes = homes_in regions.in_use s.rows

  abbrev made : Object
  made = record { number = p.graph.next; shape = shape; slots = []; place = place.Young }

  abbrev grown : Graph
  grown = with_object p.graph shape [] place.Young

  some : 8 ≤ size
  some = size-least p.graph.classes made

  small : is_large p.graph.classes shape ≡ false
  small = all-in (λ (o : Object). SuitsShape p.graph.classes o o.place) (p.graph.objects ++ made ∷ []) made (in-last p.graph.objects made) formed.places

  fits : IsSize size
  fits =
      let packed = young-packed (record p.graph { objects = made ∷ [] }) ((not-too-large p.graph.classes shape (shape-in p.graph.classes (p.graph.objects ++ made ∷ []) made (in-last p.graph.objects made) formed.objects), small), tt) in
      record { multiple = omega arith; least = size-least p.graph.classes made; greatest = omega (arith, packed.1.1, packed.1.2) }

  -- WHERE IT STANDS

  rows-are : Pack regions.in_use (young_sizes p.graph ++ size ∷ [])
  rows-are = subst (λ (rows : List Row). Pack rows (young_sizes p.graph ++ size ∷ [])) (sym placing.places.in_use) (pack-more s.regions.in_use (young_sizes p.graph) placing.places.region size k.heap.stands.packed.pack fits)

  house : HouseAll new_homes grown
  house =
      let same : used grown ≡ parts_for region_bytes (end_from 0 (young_sizes p.graph ++ size ∷ [])) = ap (λ ss. parts_for region_bytes (end_from 0 ss)) (sizes-push p.graph shape []) in
      let rows = rows-are.used in
      let many = length-map regions.in_use (λ (row : Row). row.region) in
      let count : large_count 0 grown.objects ≡ large_count 0 p.graph.objects = count-push 0 p.graph.objects made in
      let large = k.heap.house.for_large in
      record {
        regions = numbers-from (2 * p.graph.budget) (map (λ (row : Row). row.region) regions.in_use)
            (λ i d below.
            let all = all-left (λ n. n < regions.count) (map (λ (row : Row). row.region) regions.in_use) (map (λ (row : Row). row.region) regions.from)
            (all-left (λ n. n < regions.count) (map (λ (row : Row). row.region) regions.in_use ++ map (λ (row : Row). row.region) regions.from) regions.free placing.space.lists.within) in
            omega (arith, all i d below, placing.places.count, k.heap.stands.count))
            (in_use-apart (lists_of regions) placing.space);
        slots = k.heap.house.slots;
        for_young = omega (arith, same, rows, many);
        for_large = omega (arith, count, large);
      }

  address : table_of new_homes grown p.graph.next ≡ at
  address =
      table-new new_homes p.graph.classes 0 p.graph.next made refl 0 0 p.graph.objects k.heap.formed.numbers
      ∙ ap (λ e. packed_at new_homes.regions (packing.place e size)) (sym (last-is p.graph))
      ∙ ap (λ (rows : List Row). address_in rows (packing.place (end_from 0 (young_sizes p.graph)) size)) placing.places.in_use
      ∙ sym (pack-spot s.regions.in_use (young_sizes p.graph) placing.places.region size k.heap.stands.packed.pack fits)
      ∙ sym placing.places.spot

  same-table : (n : ℕ) → table_of new_homes p.graph n ≡ table_of old_homes p.graph n
  same-table n =
      let ends = k.heap.stands.packed.pack.end in
      let low : last_end p.graph.classes 0 p.graph.objects ≤ end_of_rows s.regions.in_use = omega (arith, ends, last-is p.graph) in
      table-same old_homes new_homes p.graph.classes (end_of_rows s.regions.in_use) (large_count 0 p.graph.objects)
      (λ q below. ap (λ (rows : List Row). address_in rows q) placing.places.in_use ∙ object-stays s.regions.in_use placing.places.region size q (in_use-filled (lists_of s.regions) k.heap.space) below)
      (λ j few. refl) 0 0 p.graph.objects n low (omega arith)

  tables : SameTable (table_of old_homes p.graph) (table_of new_homes p.graph) p.graph.objects
  tables = same-tables (table_of old_homes p.graph) (table_of new_homes p.graph) p.graph.objects same-table

  both : SameTable (table_of old_homes p.graph) (table_of new_homes grown) p.graph.objects
  both =
      let grows = grown-same new_homes p.graph shape [] place.Young k.heap.formed in
      record { numbers = λ o there. grows.numbers o there ∙ tables.numbers o there; values = λ o at there. grows.values o at there ∙ tables.values o at there }

  -- ITS PAGES

  was-pages : region.HasPages was s.page_table (filled (lists_of s.regions))
  was-pages = (held-regions (heap_of s []) was s.page_table p.graph k.heap).pages

  has-is : (q : ℕ) → has_bytes_in p.graph.classes (table_of new_homes grown) q made ≡ covers at size q
  has-is q = ap (λ n. nat_le (page_of n) q && nat_le q (page_of (n + size_in p.graph.classes shape - 1))) address

  new-rows : (q : ℕ) → list_any (holds_page q) (filled (lists_of regions)) ≡ (list_any (holds_page q) (filled (lists_of s.regions)) || covers at size q)
  new-rows q = lie.pages-grown (lists_of s.regions) (lists_of regions) at size q fits placing.places

  covers-window : (q : ℕ) → covers at size q ≡ true → is_in window.Regions q ≡ true
  covers-window q is = filled-window (lists_of regions) q placing.space (new-rows q ∙ or_right (list_any (holds_page q) (filled (lists_of s.regions))) (covers at size q) is)

  in-run : (q : ℕ) → IsInRun (region.further_from s.regions.in_use at size) (region.further_pages s.regions.in_use size) q → covers at size q ≡ true
  in-run q run = run-covers s.regions.in_use placing.places.region at size q some placing.places.spot run

  -- outside the window nothing changed
  outside : (q : ℕ) → is_in window.Regions q ≡ false → page_at between t q ≡ page_at was t q
  outside q off = elim (side t (region.further_from s.regions.in_use at (size_in p.graph.classes shape)) (region.further_pages s.regions.in_use (size_in p.graph.classes shape)) t q) [
    | inl apart ↦ placing.pages.maps.others t q apart
    | inr here ↦ absurd (true≢false (sym (covers-window q (in-run q here.1)) ∙ off))
  ]

  grows : (q : ℕ) → is_mapped between t q ≡ (is_mapped was t q || has_bytes_in p.graph.classes (table_of new_homes grown) q made)
  grows q = elim (cases_Bool (is_in window.Regions q)) [
    | inl on ↦ placing.mapped q on ∙ new-rows q ∙ ap (λ b. b || covers at (size_in p.graph.classes shape) q) (sym (was-pages q on)) ∙ ap (λ b. is_mapped was t q || b) (sym (has-is q))
    | inr off ↦ ap is_some (outside q off) ∙ sym (absorbs (is_mapped was t q) _ (λ has. absurd (true≢false (sym (covers-window q (sym (has-is q) ∙ has)) ∙ off))))
  ]

  -- ROOM

  objects : HoldsGraph p.graph.classes (view_of between t) (table_of new_homes p.graph) p.graph.objects
  objects =
      let table : ℕ → ℕ = table_of old_homes p.graph in
      let graph = k.heap.pages.objects in
      graph-same p.graph.classes (view_of between t) table (table_of new_homes p.graph) p.graph.objects
      (raws-graph p.graph.classes (view_of between t) (raws_under table p.graph.objects) table p.graph.objects
      (raws-run p.graph.classes was between t _ _ (raws_under table p.graph.objects) (graph-raws p.graph.classes (view_of was t) table p.graph.objects graph) placing.pages.maps)
      (graph-among p.graph.classes table p.graph.objects (tells-apart p.graph.classes (view_of was t) table p.graph.objects graph (numbers-differ 0 p.graph.next p.graph.objects k.heap.formed.numbers))))
      tables

  pages : (w : Window) → MapsWindow between t w p.graph.classes (table_of new_homes grown) grown.objects
  pages w = pages-grown was between t w p.graph.classes (table_of old_homes p.graph) (table_of new_homes grown) p.graph.objects made (k.heap.pages.pages w) both grows

  covered : (q : ℕ) → page_of at ≤ q → q ≤ page_of (at + size - 1) → covers at size q ≡ true
  covered q low high = and_from (nat_le (page_of at) q) (nat_le q (page_of (at + size_in p.graph.classes shape - 1))) (le-leb _ _ low) (le-leb _ _ high)

  mapped-now : (q : ℕ) → covers at size q ≡ true → is_mapped between t q ≡ true
  mapped-now q is = grows q ∙ or_right (is_mapped was t q) _ (has-is q ∙ is)

  -- the window ends below the last address
  at-low : at + size ≤ 0x80000000
  at-low =
      let last = covers-window (page_of (at + size - 1)) (covered (page_of (at + size - 1)) (omega (arith, some)) (omega arith)) in
      let parts = and_parts (nat_le 262144 (page_of (at + size - 1))) (nat_lt (page_of (at + size - 1)) 327680) last in
      omega (arith, ltb-true _ _ parts.1, some)

  space-is : IsSpace (view_of between t) at size
  space-is = record { below = omega (arith, at-low); mapped = λ i lt. mapped-now (page_of (at + i)) (covered (page_of (at + i)) (omega (arith, lt)) (omega (arith, lt))) }

  alone : AreAlone between t (page_of at) (pages_in at (at + size))
  alone q low high =
      let count : pages_in at (at + size) ≡ page_of (at + size - 1) + 1 - page_of at = ap (λ b. cond {A = ℕ} b (page_of (at + size - 1) + 1 - page_of at) 0) (lt-ltb at (at + size) (omega (arith, some))) in
      let inside : covers at (size_in p.graph.classes shape) q ≡ true = covered q low (omega (arith, low, high, count)) in
      elim (side t (region.further_from s.regions.in_use at (size_in p.graph.classes shape)) (region.further_pages s.regions.in_use (size_in p.graph.classes shape)) t q) [
        | inl apart ↦
            let now : is_mapped between t q ≡ true = mapped-now q inside in
            let before : is_mapped was t q ≡ true = sym (ap is_some (placing.pages.maps.others t q apart)) ∙ now in
            alone-then was between t q (run-only was between t _ _ placing.pages.maps) now (k.heap.regions q (sym (was-pages q (covers-window q inside)) ∙ before))
        | inr here ↦ placing.pages.maps.alone q here.1
      ]

  aligned : at % 8 ≡ 0
  aligned = subst (λ n. n % 8 ≡ 0) (sym placing.places.spot) (by (region.has_room (last_of s.regions.in_use) size) s.regions.in_use (in_use-filled (lists_of s.regions) k.heap.space))
    where
      by : (b : Bool) (rows : List Row) → All region.IsFilled rows → region.spot_if b (last_of rows) placing.places.region % 8 ≡ 0
      by b rows filled-all = last b (last_of rows) refl
        where
          last : (b : Bool) (o : Option Row) → last_of rows ≡ o → region.spot_if b o placing.places.region % 8 ≡ 0
          last true (Some row) is = let whole = (last-holds region.IsFilled rows row is filled-all).multiple in omega (arith, whole)
          last true None is = omega arith
          last false o is = omega arith

  room : HasPlace (record s { regions = regions }) between p shape place.Young at
  room = record { house = house; address = address; room = record { objects = objects; pages = pages }; aligned = aligned; space = space-is; alone = alone }

pub young-room : (s placed : State) (was between : Memory) (p : Part) (shape : Shape) (at : ℕ) → StandsIn s was p → IsFormed (with_object p.graph shape [] place.Young)
    → PlacesInRegions s placed was between at (size_in p.graph.classes shape) → HasPlace placed between p shape place.Young at
young-room s placed was between p shape at k formed placing =
    subst (λ (x : State). PlacesInRegions s x was between at (size_in p.graph.classes shape) → HasPlace x between p shape place.Young at) (sym placing.rest)
    (room s placed.regions was between p shape at k formed) placing
