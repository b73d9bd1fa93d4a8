-- Room for an object that was placed in a slot of its own.
use Rattle.std.proofs.Common.{◌≡◌, ◌≢◌, ◌∙◌, ◌⊎◌, ℕ, zero, suc, ◌+◌, ◌-◌, ◌*◌, ◌<◌, ◌≤◌, true, false, true≢false, List, [], ◌∷◌, ◌++◌, map, length, refl, sym, ap, subst, inl, inr, arith, cond, is_some}
use Rattle.std.specs.Prelude.{nat_le, slice_index, ◌||◌, ◌&&◌, ◌==◌}
use Rattle.std.specs.List.{list_any}
use Rattle.std.proofs.lemmas.Bool.{and_from, and_parts, cases_lt, eq-eqb, le-leb, leb-true, lt-ltb, ne_eqb, or_left, or_right}
use Rattle.std.proofs.lemmas.List.Elements.{filter-append}
use Rattle.std.proofs.lemmas.List.{append-nil, get_or_append_left, length-append, length-map, map-append}
use Rattle.std.proofs.Math.Seq.{get_or-append_seam}
use Rattle.class_layout.specs.ClassList.{Class}
use Rattle.model_numbers.specs.Numbers.{large_base, large_slot_bytes, large_slot_count, region_bytes}
use Rattle.page_tables.specs.declared.address.Window.{Window}
use Rattle.page_tables.specs.Address.{page_of}
use Rattle.cow_pages.specs.Memory.{is_mapped, Memory}
use Rattle.cow_pages.specs.View.{view_of}
use Rattle.heap_graph.specs.declared.names.Place.TheVariants as place
use Rattle.heap_graph.specs.declared.names.Shape.{Shape}
use Rattle.heap_graph.specs.Allocation.{with_object}
use Rattle.heap_graph.specs.Formed.{AreRising, IsFormed}
use Rattle.heap_graph.specs.Graph.{is_young, size_of_object, Graph, Object}
use Rattle.heap_graph.specs.Packing.{end_from, used, young_objects}
use Rattle.heap_graph.specs.Sizes.{parts_for, size_in, unrounded}
use Rattle.heap_graph.proofs.Sizes.{not-large, unrounded-least}
use Rattle.heap_world.specs.Part.{Part}
use Rattle.object_view.specs.Changes.{pages_in, AreAlone}
use Rattle.object_view.specs.Objects.{IsSpace}
use Rattle.page_runs.specs.Runs.{IsInRun}
use Rattle.page_runs.proofs.RunLemmas.{side}
use Rattle.image_space.specs.Space.{pages_up_to}
use Rattle.large_objects.specs.declared.rows.LargeRow.{LargeRow}
use Rattle.large_objects.specs.Rows as rows
use Rattle.address_table.specs.Computed.{address_in, end_behind, large_behind, large_count, slot_at, table_from, table_of, AreNumbers, Homes, HouseAll}
use Rattle.address_table.proofs.Behind.{last_end}
use Rattle.address_table.proofs.Beside.{not-too-large, shape-in}
use Rattle.raw_objects.proofs.Paging.{raws-run}
use Rattle.graph_pages.specs.Holds.{raws_under, HoldsGraph, SameTable}
use Rattle.graph_pages.specs.Pages.{has_bytes_in, MapsWindow}
use Rattle.graph_pages.proofs.Computed.{same-tables}
use Rattle.graph_pages.proofs.Graphs.{graph-among, graph-raws, graph-same, raws-graph, tells-apart}
use Rattle.graph_pages.proofs.Grown.{grown-same}
use Rattle.graph_pages.proofs.Lists.{in-last}
use Rattle.graph_pages.proofs.Numbers.{numbers-differ}
use Rattle.graph_pages.proofs.Paged.{pages-grown}
use Rattle.evacuate.specs.Stands.{homes_in, rows_from}
use Rattle.process_state.specs.Stands.{StandsIn}
use Rattle.process_state.specs.State.{State}
use Rattle.process_steps.specs.Placing.{HasPlace, PlacesInSlot}
use Rattle.process_steps.proofs.Growing.{count-push, table-same}
use Rattle.process_steps.proofs.ImageRoom.{absorbs}
use Rattle.process_steps.proofs.LargeRows.{rows-count}

-- NUMBERS

-- a number of a list is another one than one that isn't there
row-there : (old : List LargeRow) (i slot : ℕ) → i < length (map (λ (r : LargeRow). r.slot) old) → slice_index (map (λ (r : LargeRow). r.slot) old) i ≡ slot → list_any (rows.has_slot slot) old ≡ true
row-there [] i slot low e = absurd (omega (arith, low))
row-there (r ∷ rs) zero slot low e = or_left (r.slot == slot) _ (eq-eqb r.slot slot e)
row-there (r ∷ rs) (suc i) slot low e = or_right (r.slot == slot) _ (row-there rs i slot (omega (arith, low)) e)

-- a number more behind others, from which it differs
pub numbers-push : (most : ℕ) (ns : List ℕ) (n : ℕ) → AreNumbers most ns → n < most → ((i : ℕ) → i < length ns → slice_index ns i ≡ n → ⊥) → AreNumbers most (ns ++ n ∷ [])
numbers-push most ns n are few apart = (below, once)
  where
    front : (i : ℕ) → i < length ns → slice_index (ns ++ n ∷ []) i ≡ slice_index ns i
    front i low = get_or_append_left ns (n ∷ []) 0 i low

    last : (i : ℕ) → i < length (ns ++ n ∷ []) → (i < length ns → ⊥) → i ≡ length ns
    last i low high = let whole = length-append ns (n ∷ []) in elim (cases_lt i (length ns)) [ inl less ↦ absurd (high less) | inr more ↦ omega (arith, low, whole, more) ]

    seam : (i : ℕ) → i ≡ length ns → slice_index (ns ++ n ∷ []) i ≡ n
    seam i e = ap (slice_index (ns ++ n ∷ [])) e ∙ get_or-append_seam ns n [] 0

    below : (i : ℕ) → i < length (ns ++ n ∷ []) → slice_index (ns ++ n ∷ []) i < most
    below i low = elim (cases_lt i (length ns)) [
      | inl less ↦ subst (λ x. x < most) (sym (front i less)) (are.0 i less)
      | inr more ↦ subst (λ x. x < most) (sym (seam i (last i low (λ less. omega (arith, less, more))))) few
    ]

    once : (i j : ℕ) → i < length (ns ++ n ∷ []) → j < length (ns ++ n ∷ []) → slice_index (ns ++ n ∷ []) i ≡ slice_index (ns ++ n ∷ []) j → i ≡ j
    once i j low-i low-j same = elim (cases_lt i (length ns)) [
      | inl less ↦ elim (cases_lt j (length ns)) [
        | inl less' ↦ are.1 i j less less' (sym (front i less) ∙ same ∙ front j less')
        | inr more' ↦ absurd (apart i less (sym (front i less) ∙ same ∙ seam j (last j low-j (λ l. omega (arith, l, more')))))
      ]
      | inr more ↦ elim (cases_lt j (length ns)) [
        | inl less' ↦ absurd (apart j less' (sym (front j less') ∙ sym same ∙ seam i (last i low-i (λ l. omega (arith, l, more)))))
        | inr more' ↦ last i low-i (λ l. omega (arith, l, more)) ∙ sym (last j low-j (λ l. omega (arith, l, more')))
      ]
    ]

-- the address of a last object, whose number is above the others'
pub table-new : (homes : Homes) (cs : List Class) (low next : ℕ) (o : Object) → o.number ≡ next → (end large : ℕ) (os : List Object) → AreRising low next os
    → table_from homes cs end large (os ++ o ∷ []) next ≡ address_in homes cs (last_end cs end os) (large_count large os) o o.place
table-new homes cs low next o e end large [] rising = ap (λ b. cond b (address_in homes cs end large o o.place) 0) (eq-eqb o.number next e)
table-new homes cs low next o e end large (x ∷ os) rising =
    ap (λ b. cond b (address_in homes cs end large x x.place) (table_from homes cs (end_behind cs end x x.place) (large_behind large x.place) (os ++ o ∷ []) next))
    (ne_eqb x.number next (λ same. omega (arith, same, low-next (x.number + 1) next os rising.1)))
    ∙ table-new homes cs (x.number + 1) next o e (end_behind cs end x x.place) (large_behind large x.place) os rising.1
  where
    low-next : (low next : ℕ) (os : List Object) → AreRising low next os → low ≤ next
    low-next low next [] h = h
    low-next low next (o ∷ os) h = omega (arith, h.0, low-next (o.number + 1) next os h.1)

-- A PROCESS

module _ (s : State) (now : List LargeRow) (was between : Memory) (p : Part) (shape : Shape) (at : ℕ) (k : StandsIn s was p) (sealed : p.graph.sealed ≡ true)
    (formed : IsFormed (with_object p.graph shape [] place.Large)) (placing : PlacesInSlot s (record s { rows = now }) was between at (unrounded p.graph.classes shape)) where
  abbrev t : ℕ
  t = s.page_table

  abbrev size : ℕ
  size = size_in p.graph.classes shape

  abbrev bytes : ℕ
  bytes = unrounded p.graph.classes shape

  abbrev before : List ℕ
  before = map (λ (r : LargeRow). r.slot) s.rows

  abbrev old_homes : Homes
  old_homes = homes_in s.regions.in_use s.rows

  abbrev new_homes : Homes
  new_homes = homes_in s.regions.in_use now

  abbrev made : Object
  made = record { number = p.graph.next; shape = shape; slots = []; place = place.Large }

  abbrev grown : Graph
  grown = with_object p.graph shape [] place.Large

  slot-few : placing.places.slot < 512
  slot-few = placing.places.within

  at-is : at ≡ large_base + placing.places.slot * large_slot_bytes
  at-is = placing.places.spot

  bytes-few : bytes ≤ 1048576
  bytes-few = not-large p.graph.classes shape (not-too-large p.graph.classes shape (shape-in p.graph.classes (p.graph.objects ++ made ∷ []) made (in-last p.graph.objects made) formed.objects))

  some : 8 ≤ bytes
  some = unrounded-least p.graph.classes shape

  -- WHERE IT STANDS

  slots-are : map (λ (r : LargeRow). r.slot) now ≡ before ++ placing.places.slot ∷ []
  slots-are =
      ap (map (λ (r : LargeRow). r.slot)) placing.places.rows
      ∙ map-append (λ (r : LargeRow). r.slot) s.rows (record { number = s.next; slot = placing.places.slot; bytes = unrounded p.graph.classes shape; promoted = false; marked = false } ∷ [])

  counted : large_count 0 p.graph.objects ≡ length before
  counted =
      let rows-are = rows-count p.graph.classes old_homes.slots 0 p.graph.objects in
      let same : length s.rows ≡ length (rows_from p.graph.classes old_homes.slots 0 p.graph.objects) = ap length k.heap.stands.rows in
      let slots = length-map s.rows (λ (r : LargeRow). r.slot) in
      omega (arith, rows-are, same, slots)

  house : HouseAll new_homes grown
  house =
      let young-keep : young_objects grown ≡ young_objects p.graph = filter-append (λ (o : Object). is_young o.place) p.graph.objects (made ∷ []) ∙ append-nil (young_objects p.graph) in
      let same : used grown ≡ used p.graph = ap (λ os. parts_for region_bytes (end_from 0 (map (size_of_object p.graph.classes) os))) young-keep in
      let count : large_count 0 grown.objects ≡ large_count 0 p.graph.objects + 1 = count-push 0 p.graph.objects made in
      let slots : length (map (λ (r : LargeRow). r.slot) now) ≡ length before + 1 = ap length slots-are ∙ length-append before (placing.places.slot ∷ []) in
      let young = k.heap.house.for_young in
      record {
        regions = k.heap.house.regions;
        slots = subst (AreNumbers large_slot_count) (sym slots-are)
            (numbers-push large_slot_count before placing.places.slot k.heap.house.slots placing.places.within
            (λ i low e. true≢false (sym (row-there s.rows i placing.places.slot low e) ∙ placing.places.fresh)));
        for_young = omega (arith, same, young);
        for_large = omega (arith, count, slots, counted);
      }

  address : table_of new_homes grown p.graph.next ≡ at
  address =
      table-new new_homes p.graph.classes 0 p.graph.next made refl 0 0 p.graph.objects k.heap.formed.numbers
      ∙ ap (slot_at new_homes.slots) counted
      ∙ ap (λ (xs : List ℕ). large_base + slice_index xs (length before) * large_slot_bytes) slots-are
      ∙ ap (λ n. large_base + n * large_slot_bytes) (get_or-append_seam before placing.places.slot [] 0)
      ∙ sym at-is

  same-table : (n : ℕ) → table_of new_homes p.graph n ≡ table_of old_homes p.graph n
  same-table n =
      table-same old_homes new_homes p.graph.classes (last_end p.graph.classes 0 p.graph.objects) (length before) (λ q low. refl)
      (λ j low. ap (λ (xs : List ℕ). large_base + slice_index xs j * large_slot_bytes) slots-are ∙ ap (λ i. large_base + i * large_slot_bytes) (get_or_append_left before (placing.places.slot ∷ []) 0 j low))
      0 0 p.graph.objects n (omega arith) (omega (arith, counted))

  tables : SameTable (table_of old_homes p.graph) (table_of new_homes p.graph) p.graph.objects
  tables = same-tables (table_of old_homes p.graph) (table_of new_homes p.graph) p.graph.objects same-table

  both : SameTable (table_of old_homes p.graph) (table_of new_homes grown) p.graph.objects
  both =
      let grows = grown-same new_homes p.graph shape [] place.Large k.heap.formed in
      record { numbers = λ o there. grows.numbers o there ∙ tables.numbers o there; values = λ o at there. grows.values o at there ∙ tables.values o at there }

  -- ITS PAGES

  has-bytes : (q : ℕ) → page_of at ≤ q → q ≤ page_of (at + size - 1) → has_bytes_in p.graph.classes (table_of new_homes grown) q made ≡ true
  has-bytes q low high = subst (λ n. (nat_le (page_of n) q && nat_le q (page_of (n + size_in p.graph.classes shape - 1))) ≡ true) (sym address) (and_from _ _ (le-leb _ _ low) (le-leb _ _ high))

  in-run : (q : ℕ) → page_of at ≤ q → q ≤ page_of (at + size - 1) → q < page_of at + pages_up_to bytes
  in-run q low high = omega (arith, low, high, at-is, some, bytes-few)

  last-page : (q : ℕ) → q < page_of at + pages_up_to bytes → q ≤ page_of (at + size - 1)
  last-page q high = omega (arith, high, at-is, some, bytes-few)

  grows : (q : ℕ) → is_mapped between t q ≡ (is_mapped was t q || has_bytes_in p.graph.classes (table_of new_homes grown) q made)
  grows q = elim (side t (page_of at) (pages_up_to (unrounded p.graph.classes shape)) t q) [
    | inl apart ↦ ap is_some (placing.pages.maps.others t q apart) ∙ sym (absorbs (is_mapped was t q) _ (λ has. absurd (beside apart has)))
    | inr here ↦
        let inside : IsInRun (page_of at) (pages_up_to (unrounded p.graph.classes shape)) q = here.1 in
        ap is_some (placing.pages.maps.zeros q inside).now ∙ sym (or_right (is_mapped was t q) _ (has-bytes q inside.from (last-page q inside.to)))
  ]
    where
      beside : (t ≢ t) ⊎ ((q < page_of at) ⊎ (page_of at + pages_up_to (unrounded p.graph.classes shape) ≤ q)) → has_bytes_in p.graph.classes (table_of new_homes grown) q made ≡ true → ⊥
      beside apart has =
          let parts = and_parts (nat_le (page_of at) q) (nat_le q (page_of (at + size_in p.graph.classes shape - 1))) (subst (λ n. (nat_le (page_of n) q && nat_le q (page_of (n + size_in p.graph.classes shape - 1))) ≡ true) address has) in
          let low : page_of at ≤ q = leb-true _ _ parts.0 in
          let inside = in-run q low (leb-true _ _ parts.1) in
          elim apart [
            | inl other ↦ other refl
            | inr (inl below) ↦ omega (arith, below, low)
            | inr (inr behind) ↦ omega (arith, behind, inside)
          ]

  -- ROOM

  objects : HoldsGraph p.graph.classes (view_of between t) (table_of new_homes p.graph) p.graph.objects
  objects =
      let table : ℕ → ℕ = table_of old_homes p.graph in
      let held = k.heap.pages.objects in
      graph-same p.graph.classes (view_of between t) table (table_of new_homes p.graph) p.graph.objects
      (raws-graph p.graph.classes (view_of between t) (raws_under table p.graph.objects) table p.graph.objects
      (raws-run p.graph.classes was between t _ _ (raws_under table p.graph.objects) (graph-raws p.graph.classes (view_of was t) table p.graph.objects held) placing.pages.maps)
      (graph-among p.graph.classes table p.graph.objects (tells-apart p.graph.classes (view_of was t) table p.graph.objects held (numbers-differ 0 p.graph.next p.graph.objects k.heap.formed.numbers))))
      tables

  pages : (w : Window) → MapsWindow between t w p.graph.classes (table_of new_homes grown) grown.objects
  pages w = pages-grown was between t w p.graph.classes (table_of old_homes p.graph) (table_of new_homes grown) p.graph.objects made (k.heap.pages.pages w) both grows

  mapped-now : (q : ℕ) → page_of at ≤ q → q ≤ page_of (at + size - 1) → is_mapped between t q ≡ true
  mapped-now q low high = grows q ∙ or_right (is_mapped was t q) _ (has-bytes q low high)

  space-is : IsSpace (view_of between t) at size
  space-is = record { below = omega (arith, at-is, slot-few, bytes-few); mapped = λ i lt. mapped-now (page_of (at + i)) (omega (arith, lt)) (omega (arith, lt)) }

  alone : AreAlone between t (page_of at) (pages_in at (at + size))
  alone q low high =
      let count : pages_in at (at + size) ≡ page_of (at + size - 1) + 1 - page_of at = ap (λ b. cond {A = ℕ} b (page_of (at + size - 1) + 1 - page_of at) 0) (lt-ltb at (at + size) (omega (arith, some))) in
      placing.pages.maps.alone q (record { from = low; to = in-run q low (omega (arith, low, high, count)) })

  room : HasPlace (record s { rows = now }) between p shape place.Large at
  room = record { house = house; address = address; room = record { objects = objects; pages = pages }; aligned = omega (arith, at-is); space = space-is; alone = alone }

pub slot-room : (s placed : State) (was between : Memory) (p : Part) (shape : Shape) (at : ℕ) → StandsIn s was p → p.graph.sealed ≡ true → IsFormed (with_object p.graph shape [] place.Large)
    → PlacesInSlot s placed was between at (unrounded p.graph.classes shape) → HasPlace placed between p shape place.Large at
slot-room s placed was between p shape at k sealed formed placing =
    subst (λ (x : State). PlacesInSlot s x was between at (unrounded p.graph.classes shape) → HasPlace x between p shape place.Large at) (sym placing.rest)
    (room s placed.rows was between p shape at k sealed formed) placing
