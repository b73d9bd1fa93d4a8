-- Room for an object that was placed in the image.
use Rattle.std.proofs.Common.{◌≡◌, ◌≢◌, ◌∙◌, ◌⊎◌, ℕ, ◌+◌, ◌-◌, ◌<◌, ◌≤◌, Bool, true, false, [], ◌∷◌, map, refl, sym, ap, subst, inl, inr, arith, cond, is_some}
use Rattle.std.specs.Prelude.{nat_le, nat_lt, ◌||◌, ◌&&◌}
use Rattle.std.proofs.lemmas.Bool.{and_from, and_parts, le-leb, leb-true, lt-ltb, or_right}
use Rattle.std.proofs.lemmas.List.Elements.{filter-append}
use Rattle.std.proofs.lemmas.List.{append-nil}
use Rattle.model_numbers.specs.Numbers.{image_base, region_bytes}
use Rattle.page_tables.specs.declared.address.Window.{Window}
use Rattle.page_tables.specs.declared.address.Window.TheVariants as window
use Rattle.page_tables.specs.Address.{is_in, page_of}
use Rattle.cow_pages.specs.Memory.{is_mapped, HasOneSharer, Memory}
use Rattle.cow_pages.specs.View.{view_of}
use Rattle.heap_graph.specs.declared.names.Place.TheVariants as place
use Rattle.heap_graph.specs.declared.names.Shape.{Shape}
use Rattle.heap_graph.specs.Allocation.{with_object}
use Rattle.heap_graph.specs.Formed.{IsFormed}
use Rattle.heap_graph.specs.Graph.{image_fill, is_young, size_of_object, Graph, Object}
use Rattle.heap_graph.specs.Packing.{end_from, used, young_objects}
use Rattle.heap_graph.specs.Sizes.{parts_for, size_in}
use Rattle.heap_graph.proofs.Sizes.{size-least}
use Rattle.heap_world.specs.Part.{Part}
use Rattle.object_view.specs.Changes.{pages_in, AreAlone}
use Rattle.object_view.specs.Objects.{IsSpace}
use Rattle.page_runs.specs.Runs.{IsInRun}
use Rattle.page_runs.proofs.RunLemmas.{run-only, side}
use Rattle.image_space.specs.Space as image
use Rattle.address_table.specs.Computed.{large_count, table_of, Homes, HouseAll}
use Rattle.address_table.proofs.Fitting.{fits}
use Rattle.raw_objects.proofs.Paging.{raws-run}
use Rattle.graph_pages.specs.Holds.{raws_under, HoldsGraph}
use Rattle.graph_pages.specs.Pages.{has_bytes_in, MapsWindow}
use Rattle.graph_pages.proofs.Graphs.{graph-among, graph-raws, raws-graph, tells-apart}
use Rattle.graph_pages.proofs.Grown.{grown-same}
use Rattle.graph_pages.proofs.Lists.{in-last}
use Rattle.graph_pages.proofs.Numbers.{numbers-differ}
use Rattle.graph_pages.proofs.Paged.{pages-grown}
use Rattle.evacuate.specs.Stands.{homes_in}
use Rattle.process_state.specs.Stands.{StandsIn}
use Rattle.process_state.specs.State.{State}
use Rattle.process_steps.specs.Placing.{HasPlace, PlacesInImage}
use Rattle.process_steps.proofs.Growing.{count-push}
use Rattle.process_steps.proofs.ImagePages.{image-up-to}
use Rattle.process_steps.proofs.WithObject.{alone-then}

-- what is so whenever something else is, is so beside it
pub absorbs : (b c : Bool) → (c ≡ true → b ≡ true) → (b || c) ≡ b
absorbs true c h = refl
absorbs false true h = sym (h refl)
absorbs false false h = refl

module _ (s : State) (space : image.Space) (was between : Memory) (p : Part) (shape : Shape) (at : ℕ) (k : StandsIn s was p) (sealed : p.graph.sealed ≡ false)
    (formed : IsFormed (with_object p.graph shape [] (place.Image (image_base + image_fill p.graph)))) (placing : PlacesInImage s (record s { image = space }) was between at (size_in p.graph.classes shape)) where
  abbrev g : Graph
  g = p.graph

  abbrev t : ℕ
  t = s.page_table

  abbrev size : ℕ
  size = size_in p.graph.classes shape

  abbrev at_homes : Homes
  at_homes = homes_in s.regions.in_use s.rows

  abbrev made : Object
  made = record { number = p.graph.next; shape = shape; slots = []; place = place.Image (image_base + image_fill p.graph) }

  abbrev grown : Graph
  grown = with_object p.graph shape [] (place.Image (image_base + image_fill p.graph))

  some : 8 ≤ size
  some = size-least p.graph.classes made

  -- WHERE IT STANDS

  at-is : at ≡ image_base + s.image.fill
  at-is = placing.places.spot

  young-keep : young_objects grown ≡ young_objects g
  young-keep = filter-append (λ (o : Object). is_young o.place) p.graph.objects (made ∷ []) ∙ append-nil (young_objects p.graph)

  house : HouseAll at_homes grown
  house =
      let same : used grown ≡ used g = ap (λ os. parts_for region_bytes (end_from 0 (map (size_of_object p.graph.classes) os))) young-keep in
      let count : large_count 0 grown.objects ≡ large_count 0 g.objects = count-push 0 p.graph.objects made in
      let young = k.heap.house.for_young in
      let large = k.heap.house.for_large in
      record { regions = k.heap.house.regions; slots = k.heap.house.slots; for_young = omega (arith, same, young); for_large = omega (arith, count, large) }

  address : table_of at_homes grown p.graph.next ≡ at
  address = (fits at_homes grown formed house).placed made (in-last p.graph.objects made) ∙ ap (λ n. image_base + n) (sym k.image.fill) ∙ sym at-is

  -- ITS PAGES

  in-image : (q : ℕ) → page_of at ≤ q → q < image.end_page s.image.fill → is_in window.Image q ≡ true
  in-image q from below =
      let bound = k.image_is.bounded in
      let low : 131072 ≤ q = omega (arith, from, at-is) in
      let high : q < 147456 = omega (arith, below, bound) in
      and_from (nat_le 131072 q) (nat_lt q 147456) (le-leb 131072 q low) (lt-ltb q 147456 high)

  -- a page of the object that isn't in the run was mapped before
  was-mapped : (q : ℕ) → page_of at ≤ q → q < image.end_page s.image.fill → is_mapped was t q ≡ true
  was-mapped q from below =
      let fill = k.image.fill in
      let low : 131072 ≤ q = omega (arith, from, at-is) in
      let high : q < 131072 + image.pages_up_to (image_fill p.graph) = omega (arith, below, fill) in
      image-up-to s was p k q (in-image q from below) ∙ and_from (nat_le 131072 q) (nat_lt q (131072 + image.pages_up_to (image_fill p.graph))) (le-leb 131072 q low) (lt-ltb q (131072 + image.pages_up_to (image_fill p.graph)) high)

  has-bytes : (q : ℕ) → page_of at ≤ q → q ≤ page_of (at + size - 1) → has_bytes_in p.graph.classes (table_of at_homes grown) q made ≡ true
  has-bytes q low high = subst (λ n. (nat_le (page_of n) q && nat_le q (page_of (n + size_in p.graph.classes shape - 1))) ≡ true) (sym address) (and_from _ _ (le-leb _ _ low) (le-leb _ _ high))

  bytes-from : (q : ℕ) → has_bytes_in p.graph.classes (table_of at_homes grown) q made ≡ true → (page_of at ≤ q) × (q ≤ page_of (at + size - 1))
  bytes-from q has =
      let parts = and_parts (nat_le (page_of at) q) (nat_le q (page_of (at + size_in p.graph.classes shape - 1))) (subst (λ n. (nat_le (page_of n) q && nat_le q (page_of (n + size_in p.graph.classes shape - 1))) ≡ true) address has) in
      (leb-true _ _ parts.0, leb-true _ _ parts.1)

  grows : (q : ℕ) → is_mapped between t q ≡ (is_mapped was t q || has_bytes_in p.graph.classes (table_of at_homes grown) q made)
  grows q = elim (side t (image.end_page s.image.fill) (image.further_pages s.image.fill (s.image.fill + size_in p.graph.classes shape)) t q) [
    | inl apart ↦ ap is_some (placing.pages.maps.others t q apart) ∙ sym (absorbs (is_mapped was t q) _ (λ has. beside apart (bytes-from q has)))
    | inr here ↦
        let inside : IsInRun (image.end_page s.image.fill) (image.further_pages s.image.fill (s.image.fill + size_in p.graph.classes shape)) q = here.1 in
        ap is_some (placing.pages.maps.zeros q inside).now
        ∙ sym (or_right (is_mapped was t q) _ (has-bytes q (omega (arith, inside.from, at-is)) (omega (arith, inside.from, inside.to, at-is, some))))
  ]
    where
      beside : (t ≢ t) ⊎ ((q < image.end_page s.image.fill) ⊎ (image.end_page s.image.fill + image.further_pages s.image.fill (s.image.fill + size_in p.graph.classes shape) ≤ q))
          → (page_of at ≤ q) × (q ≤ page_of (at + size - 1)) → is_mapped was t q ≡ true
      beside (inl other) has = absurd (other refl)
      beside (inr (inl below)) has = was-mapped q has.0 below
      beside (inr (inr behind)) has = absurd (omega (arith, behind, has.1, at-is, some))

  -- ROOM

  objects : HoldsGraph p.graph.classes (view_of between t) (table_of at_homes p.graph) p.graph.objects
  objects =
      let table : ℕ → ℕ = table_of at_homes p.graph in
      let held = k.heap.pages.objects in
      raws-graph p.graph.classes (view_of between t) (raws_under table p.graph.objects) table p.graph.objects
      (raws-run p.graph.classes was between t _ _ (raws_under table p.graph.objects) (graph-raws p.graph.classes (view_of was t) table p.graph.objects held) placing.pages.maps)
      (graph-among p.graph.classes table p.graph.objects (tells-apart p.graph.classes (view_of was t) table p.graph.objects held (numbers-differ 0 p.graph.next p.graph.objects k.heap.formed.numbers)))

  pages : (w : Window) → MapsWindow between t w p.graph.classes (table_of at_homes grown) grown.objects
  pages w = pages-grown was between t w p.graph.classes (table_of at_homes p.graph) (table_of at_homes grown) p.graph.objects made (k.heap.pages.pages w)
      (grown-same at_homes p.graph shape [] (place.Image (image_base + image_fill p.graph)) k.heap.formed) grows

  mapped-now : (q : ℕ) → page_of at ≤ q → q ≤ page_of (at + size - 1) → is_mapped between t q ≡ true
  mapped-now q low high = grows q ∙ or_right (is_mapped was t q) _ (has-bytes q low high)

  space-is : IsSpace (view_of between t) at size
  space-is =
      let bound = placing.space.bounded in
      let fill = placing.places.fill in
      record {
        below = omega (arith, at-is, bound, fill);
        mapped = λ i lt. mapped-now (page_of (at + i)) (omega (arith, lt)) (omega (arith, lt));
      }

  alone : AreAlone between t (page_of at) (pages_in at (at + size))
  alone q low high =
      let count : pages_in at (at + size) ≡ page_of (at + size - 1) + 1 - page_of at = ap (λ b. cond {A = ℕ} b (page_of (at + size - 1) + 1 - page_of at) 0) (lt-ltb at (at + size) (omega (arith, some))) in
      let top : q ≤ page_of (at + size - 1) = omega (arith, low, high, count) in
      elim (side t (image.end_page s.image.fill) (image.further_pages s.image.fill (s.image.fill + size_in p.graph.classes shape)) t q) [
        | inl apart ↦ before apart top
        | inr here ↦ placing.pages.maps.alone q here.1
      ]
    where
      kept : q < image.end_page s.image.fill → q ≤ page_of (at + size - 1) → HasOneSharer between t q
      kept below top = alone-then was between t q (run-only was between t _ _ placing.pages.maps) (mapped-now q low top) (k.alone q sealed (in-image q low below) (was-mapped q low below))

      before : (t ≢ t) ⊎ ((q < image.end_page s.image.fill) ⊎ (image.end_page s.image.fill + image.further_pages s.image.fill (s.image.fill + size_in p.graph.classes shape) ≤ q)) → q ≤ page_of (at + size - 1) → HasOneSharer between t q
      before (inl other) top = absurd (other refl)
      before (inr (inl below)) top = kept below top
      before (inr (inr behind)) top = absurd (omega (arith, behind, top, at-is, some))

  room : HasPlace (record s { image = space }) between p shape (place.Image (image_base + image_fill p.graph)) at
  room =
      let whole = k.image_is.multiple in
      record {
        house = house;
        address = address;
        room = record { objects = objects; pages = pages };
        aligned = omega (arith, at-is, whole);
        space = space-is;
        alone = alone;
      }

pub image-room : (s placed : State) (was between : Memory) (p : Part) (shape : Shape) (at : ℕ) → StandsIn s was p → p.graph.sealed ≡ false → IsFormed (with_object p.graph shape [] (place.Image (image_base + image_fill p.graph)))
    → PlacesInImage s placed was between at (size_in p.graph.classes shape) → HasPlace placed between p shape (place.Image (image_base + image_fill p.graph)) at
image-room s placed was between p shape at k sealed formed placing =
    subst (λ (x : State). PlacesInImage s x was between at (size_in p.graph.classes shape) → HasPlace x between p shape (place.Image (image_base + image_fill p.graph)) at) (sym placing.rest)
    (room s placed.image was between p shape at k sealed formed) placing
