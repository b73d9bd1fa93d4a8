-- What a store leaves of a graph: where objects stand, how many there are and how large, and so what a process keeps for them.
use Rattle.std.proofs.Common.{◌≡◌, ◌∙◌, ◌+◌, ◌≤◌, inl, inr, ℕ, Bool, true, false, cond, List, [], ◌∷◌, filter, length, map, nat_eq, refl, sym, ap, subst, true≢false}
use Rattle.std.specs.Prelude.{◌||◌}
use Rattle.std.specs.List.{list_any}
use Rattle.std.proofs.lemmas.List.{length-map}
use Rattle.class_layout.specs.ClassList.{Class}
use Rattle.heap_graph.specs.declared.names.Held.{Held}
use Rattle.heap_graph.specs.declared.names.Held.TheVariants as held
use Rattle.heap_graph.specs.declared.names.Place.{Place}
use Rattle.heap_graph.specs.declared.names.Place.TheVariants.{Image, Zygote, Young, Large, Promoted}
use Rattle.heap_graph.specs.declared.names.Root.{Root}
use Rattle.heap_graph.specs.declared.names.Stored.{Stored}
use Rattle.heap_graph.specs.Formed.{IsFormed}
use Rattle.heap_graph.specs.Graph.{image_fill, is_young, size_of_object, zygote_fill, Graph, Object}
use Rattle.heap_graph.specs.Packing.{end_from, young_objects, young_sizes}
use Rattle.heap_graph.specs.Sizes.{parts_for}
use Rattle.heap_graph.specs.Values.{with_stored}
use Rattle.heap_world.specs.declared.names.PageName.{PageName}
use Rattle.heap_world.specs.declared.names.PageName.TheVariants as page
use Rattle.heap_world.specs.Acts.{stored_in, stored_in_if, with_slot}
use Rattle.heap_world.specs.Pages.{is_touched, promoted_pages}
use Rattle.heap_world.proofs.PlacedSame.{all_pages-same, stored-same}
use Rattle.heap_world.proofs.SoundParts.{standing-stored}
use Rattle.model_numbers.specs.Numbers.{region_bytes}
use Rattle.world_laws.specs.Named.{is_named, stands, waits}
use Rattle.world_laws.proofs.Named.{fills-same, reaches-same, waiting-same}
use Rattle.world_laws.proofs.StandingLists.{standing_lists}
use Rattle.object_view.specs.Seen.{root_address}
use Rattle.large_objects.specs.declared.rows.LargeRow.{LargeRow}
use Rattle.page_tables.specs.Address.{page_of}
use Rattle.address_table.specs.Computed.{large_behind, large_count, table_of, Homes, HouseAll}
use Rattle.graph_pages.specs.Pages.{page_named}
use Rattle.graph_pages.proofs.Computed.{table-stored}
use Rattle.evacuate.specs.Stands.{home_of, homes_in, rows_from, with_row, young_homes, StandsFor}
use Rattle.evacuate.proofs.Members.{map-same}
use Rattle.process_state.specs.State.{addresses_in, heap_of, State}

-- LISTS

-- those at some places
abbrev those : (Place → Bool) → List Object → List Object
those T os = filter (λ (o : Object). T o.place) os

module _ (n : ℕ) (new : Stored) where
  -- what objects of some places are, but for their slots
  map-stored : {X : Type 0} (f e : Object → X) → ((o : Object) (ss : List Stored) → f (record o { slots = ss }) ≡ e o) → (T : Place → Bool) (os : List Object)
      → map f (those T (stored_in os n new)) ≡ map e (those T os)
  map-stored f e same T [] = refl
  map-stored f e same T (o ∷ os) = by (nat_eq o.number n) (map-stored f e same T os)
    where
      put : (x : Object) → f x ≡ e o → (c : Bool) → map f (those T (stored_in os n new)) ≡ map e (those T os)
          → map f (cond c (x ∷ those T (stored_in os n new)) (those T (stored_in os n new))) ≡ map e (cond c (o ∷ those T os) (those T os))
      put x one true rest = ap (λ y. y ∷ map f (those T (stored_in os n new))) one ∙ ap (λ ys. e o ∷ ys) rest
      put x one false rest = rest

      by : (b : Bool) → map f (those T (stored_in os n new)) ≡ map e (those T os) → map f (those T (stored_in_if b o new ∷ stored_in os n new)) ≡ map e (those T (o ∷ os))
      by true rest = put (record o { slots = with_stored o.slots new }) (same o (with_stored o.slots new)) (T o.place) rest
      by false rest = put o (same o o.slots) (T o.place) rest

  -- an object stands at such a place
  pub any-stored : (T : Place → Bool) (os : List Object) → list_any (λ (o : Object). T o.place) (stored_in os n new) ≡ list_any (λ (o : Object). T o.place) os
  any-stored T [] = refl
  any-stored T (o ∷ os) = by (nat_eq o.number n) (ap (λ b. T o.place || b) (any-stored T os))
    where
      by : (b : Bool) → (T o.place || list_any (λ (o : Object). T o.place) (stored_in os n new)) ≡ (T o.place || list_any (λ (o : Object). T o.place) os)
          → (T (stored_in_if b o new).place || list_any (λ (o : Object). T o.place) (stored_in os n new)) ≡ (T o.place || list_any (λ (o : Object). T o.place) os)
      by true rest = rest
      by false rest = rest

  -- how many have slots of their own
  count-stored : (large : ℕ) (os : List Object) → large_count large (stored_in os n new) ≡ large_count large os
  count-stored large [] = refl
  count-stored large (o ∷ os) = by (nat_eq o.number n) (count-stored (large_behind large o.place) os)
    where
      by : (b : Bool) → large_count (large_behind large o.place) (stored_in os n new) ≡ large_count (large_behind large o.place) os
          → large_count (large_behind large (stored_in_if b o new).place) (stored_in os n new) ≡ large_count (large_behind large o.place) os
      by true rest = rest
      by false rest = rest

  module _ (cs : List Class) (slots : List ℕ) where
    -- a row doesn't tell what its object holds
    with-row : (k : ℕ) (o : Object) (ss : List Stored) (at : Place) (rows : List LargeRow) → with_row cs slots k (record o { slots = ss }) at rows ≡ with_row cs slots k o at rows
    with-row k o ss (Image spot) rows = refl
    with-row k o ss (Zygote spot) rows = refl
    with-row k o ss Young rows = refl
    with-row k o ss Large rows = refl
    with-row k o ss Promoted rows = refl

    -- the rows are the same
    rows-stored : (k : ℕ) (os : List Object) → rows_from cs slots k (stored_in os n new) ≡ rows_from cs slots k os
    rows-stored k [] = refl
    rows-stored k (o ∷ os) = by (nat_eq o.number n) (ap (with_row cs slots k o o.place) (rows-stored (large_behind k o.place) os))
      where
        by : (b : Bool)
            → with_row cs slots k o o.place (rows_from cs slots (large_behind k o.place) (stored_in os n new)) ≡ with_row cs slots k o o.place (rows_from cs slots (large_behind k o.place) os)
            → rows_from cs slots k (stored_in_if b o new ∷ stored_in os n new) ≡ with_row cs slots k o o.place (rows_from cs slots (large_behind k o.place) os)
        by true rest = with-row k o (with_stored o.slots new) o.place (rows_from cs slots (large_behind k o.place) (stored_in os n new)) ∙ rest
        by false rest = rest

-- PAGES AND ADDRESSES

-- tables of the same addresses have the same pages
pub page-same : (table next : ℕ → ℕ) → ((k : ℕ) → next k ≡ table k) → (a : PageName) → page_named next a ≡ page_named table a
page-same table next same (page.Image k) = refl
page-same table next same (page.Zygote k) = refl
page-same table next same (page.Large n k) = ap (λ x. page_of x + k) (same n)

-- and roots hold the same addresses
root-same : (table next : ℕ → ℕ) → ((k : ℕ) → next k ≡ table k) → (h : Held) → root_address next h ≡ root_address table h
root-same table next same held.Null = refl
root-same table next same (held.Object n) = same n

module _ (g : Graph) (n : ℕ) (new : Stored) where
  abbrev h : Graph
  h = with_slot g n new

  -- no object moves
  pub same-table : (homes : Homes) (k : ℕ) → table_of homes (with_slot g n new) k ≡ table_of homes g k
  same-table homes k = table-stored homes g.classes k n new 0 0 g.objects

  -- the young objects have the same sizes
  same-sizes : young_sizes (with_slot g n new) ≡ young_sizes g
  same-sizes = map-stored n new (size_of_object g.classes) (size_of_object g.classes) (λ o ss. refl) is_young g.objects

  pub same-length : length (with_slot g n new).objects ≡ length g.objects
  same-length = length-map g.objects (λ o. stored_in_if (nat_eq o.number n) o new)

  same-young : length (young_objects (with_slot g n new)) ≡ length (young_objects g)
  same-young = sym (length-map (young_objects h) (size_of_object g.classes)) ∙ ap length same-sizes ∙ length-map (young_objects g) (size_of_object g.classes)

  same-homes : (homes : Homes) → young_homes homes (with_slot g n new) ≡ young_homes homes g
  same-homes homes = map-stored n new (home_of (table_of homes h)) (home_of (table_of homes g)) (λ o ss. ap (λ a. record { 0 = a }) (same-table homes o.number)) is_young g.objects

  pub same-promoted : promoted_pages (with_slot g n new) ≡ promoted_pages g
  same-promoted = all_pages-same g.classes g.classes g.objects h.objects (stored-same g.classes g.objects n new)

  -- there is a home for each object still
  pub same-house : (homes : Homes) → HouseAll homes g → HouseAll homes (with_slot g n new)
  same-house homes house = record {
    regions = house.regions;
    slots = house.slots;
    for_young = subst (λ ss. parts_for region_bytes (end_from 0 ss) ≤ length homes.regions) (sym same-sizes) house.for_young;
    for_large = subst (λ k. k ≤ length homes.slots) (sym (count-stored n new 0 g.objects)) house.for_large;
  }

  -- what a process keeps for the graph
  pub same-state : (s : State) → StandsFor (heap_of s []) g → StandsFor (heap_of s []) (with_slot g n new)
  same-state s k = record {
    classes = k.classes;
    packed = rw same-sizes (rw (same-homes (homes_in s.regions.in_use s.rows)) k.packed);
    objects = k.objects ∙ sym same-young;
    no_from = k.no_from;
    half = k.half;
    count = k.count;
    rows = k.rows ∙ sym (rows-stored n new g.classes (homes_in s.regions.in_use s.rows).slots 0 g.objects);
    roots = k.roots
        ∙ map-same (λ (r : Root). root_address (addresses_in s g) r.holds) (λ (r : Root). root_address (addresses_in s h) r.holds) g.roots
        (λ r there. sym (root-same (addresses_in s g) (addresses_in s h) (same-table (homes_in s.regions.in_use s.rows)) r.holds));
  }

  module _ (formed : IsFormed g) where
    -- as many bytes of the windows are filled
    pub same-fills : (image_fill (with_slot g n new) ≡ image_fill g) × (zygote_fill (with_slot g n new) ≡ zygote_fill g)
    same-fills = fills-same g h (stored-same g.classes g.objects n new) formed.zygote

    -- the same pages stand, and what is named or waits was so before
    pub same-stands : (a : PageName) → stands (with_slot g n new) a ≡ stands g a
    same-stands a = sym (standing_lists h a) ∙ ap (λ ps. is_touched ps a) (standing-stored g n new formed) ∙ standing_lists g a

    pub was-named : (a : PageName) → is_named (with_slot g n new) a ≡ true → is_named g a ≡ true
    was-named a is = elim (reaches-same g h [] (stored-same g.classes g.objects n new) formed.zygote a is) [ inl was ↦ was | inr none ↦ absurd (true≢false (sym none)) ]

    pub did-wait : (a : PageName) → waits (with_slot g n new) a ≡ true → waits g a ≡ true
    did-wait a is = elim (waiting-same g h [] (stored-same g.classes g.objects n new) formed.zygote a is) [ inl was ↦ was | inr none ↦ absurd (true≢false (sym none)) ]
