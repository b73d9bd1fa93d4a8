-- The objects of a graph that a process holds can be collected.
use Rattle.std.proofs.Common.{◌≡◌, ◌∙◌, ℕ, ◌≤◌, true, false, List, [], ◌∷◌, ◌++◌, map, refl, sym, ap, subst, inl, inr, arith, true≢false}
use Rattle.std.specs.Prelude.{All, is_some}
use Rattle.std.specs.List.{list_any}
use Rattle.std.proofs.lemmas.List.{append-nil, length-map}
use Rattle.class_layout.specs.ClassList.{Class}
use Rattle.class_layout.specs.declared.kind.Kind.TheVariants.{Ref}
use Rattle.class_layout.specs.declared.kind.FieldAt.{FieldAt}
use Rattle.class_layout.specs.Kinds.{next_multiple}
use Rattle.class_layout.specs.Placing.{IsIn}
use Rattle.page_tables.specs.declared.address.Addr.{Addr}
use Rattle.page_tables.specs.declared.address.Window.TheVariants as window
use Rattle.page_tables.specs.Address.{page_of}
use Rattle.cow_pages.specs.Memory.{HasOneSharer, Memory}
use Rattle.cow_pages.specs.View.{view_of}
use Rattle.heap_graph.specs.declared.names.Content.{Content}
use Rattle.heap_graph.specs.declared.names.Content.TheVariants as content
use Rattle.heap_graph.specs.declared.names.Held.{Held}
use Rattle.heap_graph.specs.declared.names.Held.TheVariants as held
use Rattle.heap_graph.specs.declared.names.Place.{Place}
use Rattle.heap_graph.specs.declared.names.Place.TheVariants as place
use Rattle.heap_graph.specs.declared.names.Root.{Root}
use Rattle.heap_graph.specs.Formed.{FitsKind, SuitsShape}
use Rattle.heap_graph.specs.Graph.{is_young, size_of_object, Graph, Object}
use Rattle.heap_graph.specs.Packing.{after, end_from, places_from, young_objects, young_sizes}
use Rattle.heap_graph.specs.Packing as packing
use Rattle.heap_graph.specs.Places.{places_of}
use Rattle.heap_graph.specs.Sizes.{is_large, is_too_large, size_in}
use Rattle.heap_graph.specs.Values.{value_at}
use Rattle.heap_graph.proofs.Places.{value-fits}
use Rattle.heap_graph.proofs.Sizes.{size-least, young-packed}
use Rattle.object_view.specs.declared.names.Slot.{Slot}
use Rattle.object_view.specs.Seen.{root_address, seen_value, value_in}
use Rattle.raw_objects.specs.Raws.{raw_size, HoldsRaws, Raw, Raws}
use Rattle.raw_objects.specs.References.{in_regions, now_at}
use Rattle.address_table.specs.Computed.{table_of}
use Rattle.address_table.proofs.Beside.{all-in, not-too-large, shape-in}
use Rattle.address_table.proofs.Fitting.{fits}
use Rattle.region_lists.specs.Rows.{Row}
use Rattle.region_space.specs.Packed.{address_in, Pack}
use Rattle.region_space.specs.Pages.{IsObjectIn}
use Rattle.region_space.specs.Space as space
use Rattle.region_space.specs.Space.{filled, lists_of, IsSize}
use Rattle.region_space.proofs.WalkLemmas.{in_use-apart, in_use-filled, walk-lies}
use Rattle.large_objects.specs.declared.rows.LargeRow.{LargeRow}
use Rattle.large_objects.specs.Rows.{row_at, slot_base, AreRows}
use Rattle.large_objects.specs.Pages as large
use Rattle.world_laws.specs.Named.{has_slot}
use Rattle.graph_pages.specs.Holds.{raw_under}
use Rattle.graph_pages.proofs.Graphs.{graph-raws}
use Rattle.graph_pages.proofs.Lists.{filter-in, in-filter, in-map, map-in}
use Rattle.live_objects.specs.Live.{addresses}
use Rattle.live_objects.specs.Reach.{in_large, IsFound, IsHeld}
use Rattle.object_moves.specs.Copies.{sizes_at, HoldsRegions, IsBesideRegions, PacksAt}
use Rattle.object_collection.specs.Collects.{AreLarge, AreYoung, CanCollect, HeapState}
use Rattle.evacuate.specs.Stands.{home_of, homes_of, raws_of, rows_from, young_homes, HasSlotsOut, HoldsHeap, KeepsGraph}
use Rattle.evacuate.proofs.Members.{all-from, contains-in, in-contains, map-same, map-twice}
use Rattle.evacuate.proofs.Pages.{large-pages, region-pages}
use Rattle.evacuate.proofs.Found.{held-one, numbered, object-at, raw-there, target-in, ObjectAt}
use Rattle.evacuate.proofs.Rows.{object-there}
use Rattle.evacuate.proofs.Stand.{are-rows, in-large-is, in-regions-is, row-at, stand, Stand}

-- what stands behind others at its packing place
record SplitAt (cs : List Class) (f : Object → ℕ) (a : ℕ → ℕ) (p : ℕ) (os : List Object) (o : Object) : Type 0 where
  pub before : List ℕ
  pub more : List ℕ
  pub sizes_are : map (size_of_object cs) os ≡ before ++ size_of_object cs o ∷ more
  pub at_is : f o ≡ a (packing.place (end_from p before) (size_of_object cs o))

split-at : (cs : List Class) (f : Object → ℕ) (a : ℕ → ℕ) (p : ℕ) (os : List Object) (o : Object) → map f os ≡ map a (places_from p (map (size_of_object cs) os)) → IsIn o os → SplitAt cs f a p os o
split-at cs f a p [] o same none = absurd none
split-at cs f a p (x ∷ os) o same (inl e) =
    let head : f x ≡ a (packing.place p (size_of_object cs x)) = cc in
    subst (λ (y : Object). SplitAt cs f a p (x ∷ os) y) e (record { before = []; more = map (size_of_object cs) os; sizes_are = refl; at_is = head })
split-at cs f a p (x ∷ os) o same (inr later) =
    let tail : map f os ≡ map a (places_from (after p (size_of_object cs x)) (map (size_of_object cs) os)) = cc in
    let it = split-at cs f a (after p (size_of_object cs x)) os o tail later in
    record { before = size_of_object cs x ∷ it.before; more = it.more; sizes_are = ap (λ ns. size_of_object cs x ∷ ns) it.sizes_are; at_is = it.at_is }

-- a young object fits a region
young-small : (g : Graph) (o : Object) → is_too_large g.classes o.shape ≡ false → is_large g.classes o.shape ≡ false → size_of_object g.classes o ≤ 262144
young-small g o small plain =
    let one : Graph = record g { objects = record o { place = place.Young } ∷ [] } in
    let packed = young-packed one ((small, plain), tt) in
    omega (arith, packed.1.1, packed.1.2)

suits-young : (cs : List Class) (o : Object) (at : Place) → is_young at ≡ true → SuitsShape cs o at → is_large cs o.shape ≡ false
suits-young cs o (place.Image spot) e suits = absurd (true≢false (sym e))
suits-young cs o (place.Zygote spot) e suits = absurd (true≢false (sym e))
suits-young cs o place.Young e suits = suits
suits-young cs o place.Large e suits = absurd (true≢false (sym e))
suits-young cs o place.Promoted e suits = absurd (true≢false (sym e))

module _ (h : HeapState) (m : Memory) (t : ℕ) (g : Graph) (k : HoldsHeap h m t g) where
  abbrev table : ℕ → ℕ
  table = table_of (homes_of h) g

  abbrev raws : Raws
  raws = raws_of (homes_of h) g

  abbrev in_use : List Row
  in_use = h.regions.in_use

  filled-is : filled (lists_of h.regions) ≡ in_use
  filled-is = ap (λ (rs : List Row). h.regions.in_use ++ rs) k.stands.no_from ∙ append-nil h.regions.in_use

  raw-at : (a : ℕ) → raws.has a ≡ true → (o : ObjectAt (homes_of h) g k.formed k.house a) × (raws.raw a ≡ raw_under table o.object)
  raw-at a has =
      let it = object-at (homes_of h) g k.formed k.house a has in
      (it, ap raws.raw (sym it.at_is) ∙ (raw-there (homes_of h) g k.formed k.house it.object it.is_in).1)

  size-is : (a : ℕ) (has : raws.has a ≡ true) → raw_size h.classes raws a ≡ size_of_object g.classes (raw-at a has).0.object
  size-is a has = ap (λ cs. raw_size cs raws a) k.stands.classes ∙ ap (λ (r : Raw). size_in g.classes r.shape) (raw-at a has).1

  -- YOUNG

  is-size : (o : Object) → IsIn o g.objects → is_young o.place ≡ true → IsSize (size_of_object g.classes o)
  is-size o there young =
      let small = young-small g o (not-too-large g.classes o.shape (shape-in g.classes g.objects o there k.formed.objects))
      (suits-young g.classes o o.place young (all-in (λ y. SuitsShape g.classes y y.place) g.objects o there k.formed.places)) in
      record { multiple = omega arith; least = size-least g.classes o; greatest = small }

  sizes-all : All IsSize (young_sizes g)
  sizes-all = all-from IsSize (young_sizes g) (λ n there.
      let it = in-map (size_of_object g.classes) (young_objects g) n there in
      let from = in-filter (λ (o : Object). is_young o.place) g.objects it.0 it.1 in
      subst IsSize it.2 (is-size it.0 from.0 from.1))

  lies : (o : Object) → IsIn o g.objects → is_young o.place ≡ true → IsObjectIn in_use (table o.number) (size_of_object g.classes o)
  lies o there young =
      let same : map (λ (o : Object). table o.number) (young_objects g) ≡ map (address_in in_use) (places_from 0 (young_sizes g)) =
      sym (map-twice (λ (a : Addr). a.0) (home_of table) (young_objects g)) ∙ k.stands.packed.places in
      let it = split-at g.classes (λ (o : Object). table o.number) (address_in in_use) 0 (young_objects g) o same (filter-in (λ (o : Object). is_young o.place) g.objects o there young) in
      subst (λ a. IsObjectIn in_use a (size_of_object g.classes o)) (sym it.at_is)
      (walk-lies in_use it.before it.more (size_of_object g.classes o) (in_use-filled (lists_of h.regions) k.space) (in_use-apart (lists_of h.regions) k.space)
      (subst (All IsSize) it.sizes_are sizes-all) (subst (Pack in_use) it.sizes_are k.stands.packed.pack))

  beside : (o : Object) (at : Place) (address : ℕ) → Stand (homes_of h) g k.formed k.house o at address → is_young at ≡ false → IsBesideRegions address (size_of_object g.classes o)
  beside o (place.Image spot) address it young = inl (omega (arith, it.0, it.2))
  beside o (place.Zygote spot) address it young = inl (omega (arith, it.0, it.2))
  beside o place.Young address it young = absurd (true≢false young)
  beside o place.Large address (j, it) young = inr (omega (arith, it.3))
  beside o place.Promoted address (j, it) young = inr (omega (arith, it.3))

  pub held-regions : HoldsRegions h.classes m t (lists_of h.regions) raws
  held-regions = record {
    live = k.live;
    sound = k.sound;
    space = k.space;
    pages = λ p is.
        k.pages.pages window.Regions p is ∙ sym (region-pages (homes_of h) g k.formed k.house (lists_of h.regions) k.space k.stands.packed p is)
        ∙ ap (list_any (space.holds_page p)) (sym filled-is);
    alone = k.regions;
    holds = subst (λ cs. HoldsRaws cs (view_of m t) raws) (sym k.stands.classes) (graph-raws g.classes (view_of m t) table g.objects k.pages.objects);
    rows = λ a has inside.
        let it = raw-at a has in
        let o : Object = it.0.object in
        let young : is_young o.place ≡ true = sym (in-regions-is (homes_of h) g k.formed k.house o it.0.is_in) ∙ ap in_regions it.0.at_is ∙ inside in
        subst (λ rs. IsObjectIn rs a (raw_size h.classes raws a)) (sym filled-is)
        (subst (λ n. IsObjectIn in_use a n) (sym (size-is a has)) (subst (λ b. IsObjectIn in_use b (size_of_object g.classes o)) it.0.at_is (lies o it.0.is_in young)));
    others = λ a has outside.
        let it = raw-at a has in
        let o : Object = it.0.object in
        let old : is_young o.place ≡ false = sym (in-regions-is (homes_of h) g k.formed k.house o it.0.is_in) ∙ ap in_regions it.0.at_is ∙ outside in
        subst (λ n. IsBesideRegions a n) (sym (size-is a has))
        (subst (λ b. IsBesideRegions b (size_of_object g.classes o)) it.0.at_is (beside o o.place (table o.number) (stand (homes_of h) g k.formed k.house o it.0.is_in) old));
  }

  pub sizes-are : young_sizes g ≡ sizes_at h.classes raws (young_homes (homes_of h) g)
  sizes-are =
      map-same (size_of_object g.classes) (λ (o : Object). raw_size g.classes raws (table o.number)) (young_objects g)
      (λ o there. sym (ap (λ (r : Raw). size_in g.classes r.shape) (raw-there (homes_of h) g k.formed k.house o (in-filter (λ (o : Object). is_young o.place) g.objects o there).0).1))
      ∙ sym (map-twice (λ (a : Addr). raw_size g.classes raws a.0) (home_of table) (young_objects g))
      ∙ ap (λ cs. sizes_at cs raws (young_homes (homes_of h) g)) (sym k.stands.classes)

  pub are-young : AreYoung h raws (young_homes (homes_of h) g)
  are-young = record {
    packed = subst (λ ss. PacksAt in_use ss (young_homes (homes_of h) g)) sizes-are k.stands.packed;
    only = λ a. (
      (λ c.
          let it = in-map (λ (b : Addr). b.0) (young_homes (homes_of h) g) a (contains-in (addresses (young_homes (homes_of h) g)) a c) in
          let from = in-map (home_of table) (young_objects g) it.0 it.1 in
          let o : Object = from.0 in
          let is = in-filter (λ (o : Object). is_young o.place) g.objects o from.1 in
          let at : table o.number ≡ a = ap (λ (b : Addr). b.0) from.2 ∙ it.2 in
          subst (λ n. (raws.has n ≡ true) × (in_regions n ≡ true)) at
          ((raw-there (homes_of h) g k.formed k.house o is.0).0, in-regions-is (homes_of h) g k.formed k.house o is.0 ∙ is.1)),
      (λ it.
          let n = object-at (homes_of h) g k.formed k.house a it.0 in
          let o : Object = n.object in
          let young : is_young o.place ≡ true = sym (in-regions-is (homes_of h) g k.formed k.house o n.is_in) ∙ ap in_regions n.at_is ∙ it.1 in
          in-contains (addresses (young_homes (homes_of h) g)) a (subst (λ b. IsIn b (addresses (young_homes (homes_of h) g))) n.at_is
          (map-in (λ (b : Addr). b.0) (young_homes (homes_of h) g) (home_of table o) (map-in (home_of table) (young_objects g) o (filter-in (λ (o : Object). is_young o.place) g.objects o n.is_in young))))),
    );
    count = k.stands.objects ∙ sym (length-map (young_objects g) (home_of table));
    no_from = k.stands.no_from;
    half = k.stands.half;
  }

  -- LARGE

  abbrev rows : List LargeRow
  rows = rows_from g.classes (homes_of h).slots 0 g.objects

  pub are-large : AreLarge h m t raws
  are-large = record {
    rows = subst AreRows (sym k.stands.rows) (are-rows (homes_of h) g k.formed k.house);
    pages = λ p is.
        k.pages.pages window.Large p is ∙ sym (large-pages (homes_of h) g k.formed k.house (lists_of h.regions) k.space k.stands.packed p is)
        ∙ ap (list_any (large.holds_page p)) (sym k.stands.rows);
    unmarked = all-from (λ (row : LargeRow). row.marked ≡ false) h.rows (λ row there.
        let it = object-there g.classes (homes_of h) 0 g.next 0 0 g.objects k.formed.numbers row (subst (IsIn row) k.stands.rows there) in
        sym (ap (λ (r : LargeRow). r.marked) it.row_is));
    alone = k.large;
    has = λ row c.
        let it = object-there g.classes (homes_of h) 0 g.next 0 0 g.objects k.formed.numbers row (subst (IsIn row) k.stands.rows (contains-in h.rows row c)) in
        let o : Object = it.object in
        let at : table o.number ≡ slot_base row.slot = it.at_is ∙ ap (λ (r : LargeRow). slot_base r.slot) it.row_is in
        let raw = raw-there (homes_of h) g k.formed k.house o it.is_in in (
          subst (λ a. raws.has a ≡ true) at raw.0,
          ap (λ cs. raw_size cs raws (slot_base row.slot)) k.stands.classes ∙ ap (λ a. raw_size g.classes raws a) (sym at) ∙ ap (λ (r : Raw). size_in g.classes r.shape) raw.1
              ∙ ap (λ (r : LargeRow). next_multiple 8 r.bytes) it.row_is,
        );
    only = λ a has inside.
        let it = object-at (homes_of h) g k.formed k.house a has in
        let slot : has_slot it.object.place ≡ true = sym (in-large-is (homes_of h) g k.formed k.house it.object it.is_in) ∙ ap in_large it.at_is ∙ inside in
        let row = row-at (homes_of h) g k.formed k.house it.object it.is_in slot in
        ap (λ rs. is_some (row_at rs a)) k.stands.rows ∙ ap (λ b. is_some (row_at rows b)) (sym it.at_is) ∙ ap is_some row.1;
  }

  -- REFERENCES

  found-there : (a : ℕ) → raws.has a ≡ true → IsFound raws a
  found-there a has = record { young = λ inside. has; large = λ inside. has }

  found-null : IsFound raws 0
  found-null = record { young = λ inside. absurd (true≢false (sym inside)); large = λ inside. absurd (true≢false (sym inside)) }

  root-found : (r : Root) → IsIn r g.roots → IsFound raws (root_address table r.holds)
  root-found r there = by r.holds refl
    where
      by : (x : Held) → r.holds ≡ x → IsFound raws (root_address table x)
      by held.Null e = found-null
      by (held.Object n) e =
          let it = numbered (homes_of h) g k.formed k.house n (k.formed.closed.roots n (held-one (map (λ r. r.holds) g.roots) n (subst (λ (x : Held). IsIn x (map (λ r. r.holds) g.roots)) e (map-in (λ r. r.holds) g.roots r there)))) in
          subst (λ j. IsFound raws (table j)) it.2 (found-there (table it.0.number) (raw-there (homes_of h) g k.formed k.house it.0 it.1).0)

  held-there : (o : Object) (p : FieldAt) → IsIn o g.objects → IsIn p (places_of g.classes o.shape) → p.kind ≡ Ref → IsHeld raws (value_in table o p)
  held-there o p there within kind = by (value_at o.slots p) refl (subst (λ x. FitsKind x (value_at o.slots p)) kind (value-fits g o p k.formed there within))
    where
      by : (s : Content) → value_at o.slots p ≡ s → FitsKind Ref s → IsHeld raws (seen_value table s)
      by (content.Number z) e fit = absurd (true≢false (sym fit))
      by content.Null e fit = record { address = 0; is = refl; below = omega arith; found = found-null }
      by (content.Object n) e fit =
          let it = target-in (homes_of h) g k.formed k.house o p n there e in
          record {
            address = table n;
            is = refl;
            below = (fits (homes_of h) g k.formed k.house).below n;
            found = subst (λ j. IsFound raws (table j)) it.2 (found-there (table it.0.number) (raw-there (homes_of h) g k.formed k.house it.0 it.1).0);
          }

  targets-held : (a : ℕ) (p : FieldAt) → raws.has a ≡ true → IsIn p (places_of h.classes (raws.raw a).shape) → p.kind ≡ Ref → IsHeld raws ((raws.raw a).values p)
  targets-held a p has within kind =
      let it = raw-at a has in
      let o : Object = it.0.object in
      let there : IsIn p (places_of g.classes o.shape) =
      subst (λ (r : Raw). IsIn p (places_of g.classes r.shape)) it.1 (subst (λ cs. IsIn p (places_of cs (raws.raw a).shape)) k.stands.classes within) in
      subst (IsHeld raws) (sym (ap (λ (r : Raw). r.values p) it.1)) (held-there o p it.0.is_in there kind)

  -- what a collection stands on, with slots
  pub with-slots : HasSlotsOut h (raws_of (homes_of h) g) → ((slot : Slot) → IsIn slot h.slots → HasOneSharer m t (page_of slot.at.0)) → CanCollect h m t (raws_of (homes_of h) g)
  with-slots out alone = record {
    held = held-regions;
    young = (young_homes (homes_of h) g, are-young);
    unmoved = λ a has inside. ap (λ (r : Raw). now_at r.header) (raw-at a has).1;
    large = are-large;
    slots = record { exact = out.exact; once = out.once; alone = alone };
    roots = λ a c.
        let it = in-map (λ (r : Root). root_address table r.holds) g.roots a (subst (IsIn a) k.stands.roots (contains-in (addresses h.roots) a c)) in
        subst (IsFound raws) it.2 (root-found it.0 it.1);
    targets = targets-held;
  }

pub can : (h : HeapState) (m : Memory) (t : ℕ) (g : Graph) → KeepsGraph h m t g → CanCollect h m t (raws_of (homes_of h) g)
can h m t g k = with-slots h m t g k.heap k.out k.alone
