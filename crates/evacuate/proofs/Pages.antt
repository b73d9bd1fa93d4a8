-- Which pages hold the bytes of a graph's objects, by windows.
use Rattle.std.proofs.Common.{◌≡◌, ◌∙◌, ℕ, zero, suc, ◌+◌, ◌-◌, ◌*◌, ◌/◌, ◌<◌, ◌≤◌, Bool, true, List, [], ◌∷◌, ◌++◌, map, length, get_or, refl, sym, ap, inl, inr, arith}
use Rattle.std.specs.Prelude.{nat_le, nat_lt, slice_index_or}
use Rattle.std.specs.List.{list_any}
use Rattle.std.proofs.lemmas.Bool.{and_from, and_parts, le-leb, leb-true, lt-ltb, ltb-true}
use Rattle.std.proofs.lemmas.List.{get_or-map, length-map}
use Rattle.std.proofs.lemmas.List.Elements.{All-contains}
use Rattle.class_layout.specs.ClassList.{Class}
use Rattle.class_layout.specs.Placing.{IsIn}
use Rattle.page_tables.specs.declared.address.Addr.{Addr}
use Rattle.page_tables.specs.declared.address.Window.{Window}
use Rattle.page_tables.specs.declared.address.Window.TheVariants as window
use Rattle.page_tables.specs.Address.{first_page, is_in, page_count, page_of}
use Rattle.heap_graph.specs.declared.names.Place.{Place}
use Rattle.heap_graph.specs.declared.names.Place.TheVariants as place
use Rattle.heap_graph.specs.Formed.{IsFormed}
use Rattle.heap_graph.specs.Graph.{is_immune, is_young, size_of_object, Graph, Object}
use Rattle.heap_graph.specs.Packing.{young_objects, young_sizes}
use Rattle.heap_graph.specs.Sizes.{size_in}
use Rattle.heap_graph.specs.Table.{IsPlacedAt}
use Rattle.heap_graph.proofs.Sizes.{not-large, size-least}
use Rattle.address_table.specs.Computed.{slot_at, table_of, Homes, HouseAll}
use Rattle.address_table.proofs.Beside.{not-too-large, shape-in}
use Rattle.address_table.proofs.Fitting.{fits}
use Rattle.region_lists.specs.Rows.{Lists, Row}
use Rattle.region_lists.proofs.MoveLemmas.{all-left}
use Rattle.region_space.specs.Space as space
use Rattle.region_space.specs.Space.{IsFilled, IsSpace}
use Rattle.page_runs.specs.Covered.{covers}
use Rattle.region_space.proofs.DropLemmas.{held-run}
use Rattle.large_objects.specs.declared.rows.LargeRow.{LargeRow}
use Rattle.large_objects.specs.Rows.{slot_base, IsBytes}
use Rattle.large_objects.specs.Pages as large
use Rattle.large_objects.proofs.LawLemmas.{row-covers}
use Rattle.world_laws.specs.Named.{has_slot}
use Rattle.graph_pages.specs.Holds.{no_object}
use Rattle.graph_pages.specs.Pages.{has_bytes_in}
use Rattle.graph_pages.proofs.Lists.{any-from, any-to, filter-in, in-filter, map-in}
use Rattle.object_moves.specs.Copies.{at_of, PacksAt}
use Rattle.evacuate.specs.Stands.{home_of, row_of, rows_from, young_homes}
use Rattle.evacuate.proofs.Left.{same-bool}
use Rattle.evacuate.proofs.Members.{in-contains}
use Rattle.evacuate.proofs.Rows.{object-there, row-there}
use Rattle.evacuate.proofs.Stand.{are-rows, stand, Stand}

-- WINDOWS

-- where the page of a window lies
pub record InWindow (w : Window) (p : ℕ) : Type 0 where
  pub low : first_page w ≤ p
  pub high : p < first_page w + page_count w

pub in-window : (w : Window) (p : ℕ) → is_in w p ≡ true → InWindow w p
in-window w p is = let parts = and_parts (nat_le (first_page w) p) (nat_lt p (first_page w + page_count w)) is in record { low = leb-true _ _ parts.0; high = ltb-true _ _ parts.1 }

pub window-in : (w : Window) (p : ℕ) → first_page w ≤ p → p < first_page w + page_count w → is_in w p ≡ true
window-in w p low high = and_from (nat_le (first_page w) p) (nat_lt p (first_page w + page_count w)) (le-leb _ _ low) (lt-ltb _ _ high)

-- a page lies in one window
pub one-window : (p : ℕ) (w v : Window) → is_in w p ≡ true → is_in v p ≡ true → w ≡ v
one-window p w v one other = by w v (in-window w p one) (in-window v p other)
  where
    by : (w v : Window) → InWindow w p → InWindow v p → w ≡ v
    by window.Image window.Image a b = refl
    by window.Image window.Zygote a b = absurd (omega (arith, a.high, b.low))
    by window.Image window.Regions a b = absurd (omega (arith, a.high, b.low))
    by window.Image window.Large a b = absurd (omega (arith, a.high, b.low))
    by window.Zygote window.Image a b = absurd (omega (arith, a.low, b.high))
    by window.Zygote window.Zygote a b = refl
    by window.Zygote window.Regions a b = absurd (omega (arith, a.high, b.low))
    by window.Zygote window.Large a b = absurd (omega (arith, a.high, b.low))
    by window.Regions window.Image a b = absurd (omega (arith, a.low, b.high))
    by window.Regions window.Zygote a b = absurd (omega (arith, a.low, b.high))
    by window.Regions window.Regions a b = refl
    by window.Regions window.Large a b = absurd (omega (arith, a.high, b.low))
    by window.Large window.Image a b = absurd (omega (arith, a.low, b.high))
    by window.Large window.Zygote a b = absurd (omega (arith, a.low, b.high))
    by window.Large window.Regions a b = absurd (omega (arith, a.low, b.high))
    by window.Large window.Large a b = refl

-- the window of a place
abbrev pub window_of : Place → Window
window_of (place.Image spot) = window.Image
window_of (place.Zygote spot) = window.Zygote
window_of place.Young = window.Regions
window_of place.Large = window.Large
window_of place.Promoted = window.Large

pub regions-young : (at : Place) → window_of at ≡ window.Regions → is_young at ≡ true
regions-young (place.Image spot) e = cc
regions-young (place.Zygote spot) e = cc
regions-young place.Young e = refl
regions-young place.Large e = cc
regions-young place.Promoted e = cc

pub large-slot : (at : Place) → window_of at ≡ window.Large → has_slot at ≡ true
large-slot (place.Image spot) e = cc
large-slot (place.Zygote spot) e = cc
large-slot place.Young e = cc
large-slot place.Large e = refl
large-slot place.Promoted e = refl

pub in-at : {X : Type 0} (xs : List X) (i : ℕ) (d : X) → i < length xs → IsIn (get_or xs i d) xs
in-at [] i d below = absurd (omega (arith, below))
in-at (x ∷ xs) zero d below = inl refl
in-at (x ∷ xs) (suc i) d below = inr (in-at xs i d (omega (arith, below)))

-- the pages of the rows in use
rows-window : (s : Lists) (p : ℕ) → IsSpace s → list_any (space.holds_page p) s.in_use ≡ true → is_in window.Regions p ≡ true
rows-window s p sp any =
    let it = any-from (space.holds_page p) s.in_use any in
    let row : Row = it.0 in
    let run = held-run row p it.2 in
    let regions = all-left (λ n. n < s.count) (map (λ (row : Row). row.region) s.in_use) (map (λ (row : Row). row.region) s.from)
    (all-left (λ n. n < s.count) (map (λ (row : Row). row.region) s.in_use ++ map (λ (row : Row). row.region) s.from) s.free sp.lists.within) in
    let region : row.region < s.count = All-contains (λ n. n < s.count) (map (λ (row : Row). row.region) s.in_use) row.region regions (in-contains _ row.region (map-in (λ (row : Row). row.region) s.in_use row it.1)) in
    let filled : IsFilled row = All-contains IsFilled s.in_use row (all-left IsFilled s.in_use s.from sp.filled) (in-contains s.in_use row it.1) in
    window-in window.Regions p (omega (arith, run.from)) (omega (arith, run.to, region, filled.most, sp.few))

module _ (homes : Homes) (g : Graph) (formed : IsFormed g) (house : HouseAll homes g) where
  abbrev table : ℕ → ℕ
  table = table_of homes g

  abbrev cs : List Class
  cs = g.classes

  record HasBytes (p : ℕ) (o : Object) : Type 0 where
    pub low : page_of (table_of homes g o.number) ≤ p
    pub high : p ≤ page_of (table_of homes g o.number + size_in g.classes o.shape - 1)

  has-bytes : (p : ℕ) (o : Object) → has_bytes_in g.classes table p o ≡ true → HasBytes p o
  has-bytes p o has = let parts = and_parts (nat_le (page_of (table o.number)) p) (nat_le p (page_of (table o.number + size_in cs o.shape - 1))) has in record { low = leb-true _ _ parts.0; high = leb-true _ _ parts.1 }

  -- LARGE ONES

  -- the pages of the rows are those of the large objects
  row-bytes : (row : LargeRow) (p : ℕ) (o : Object) (index : ℕ) (promoted : Bool) → row_of cs homes.slots index o promoted ≡ row → table o.number ≡ slot_at homes.slots index → IsBytes row.bytes
      → large.holds_page p row ≡ has_bytes_in cs table p o
  row-bytes row p o index promoted is at bytes =
      row-covers row p bytes
      ∙ ap (λ (r : LargeRow). covers (slot_base r.slot) ((r.bytes + 7) / 8 * 8) p) (sym is)
      ∙ ap (λ a. covers a (size_in cs o.shape) p) (sym at)

  module _ (s : Lists) (sp : IsSpace s) (packed : PacksAt s.in_use (young_sizes g) (young_homes homes g)) where
    -- YOUNG ONES

    home-at : (i : ℕ) (d : Object) → i < length (young_objects g) → at_of (young_homes homes g) i ≡ table (get_or (young_objects g) i d).number
    home-at i d below = ap (λ (a : Addr). a.0) (get_or-map (home_of table) (young_objects g) i d (record { 0 = 0 }) below)

    size-at : (i : ℕ) (d : Object) → i < length (young_objects g) → slice_index_or (young_sizes g) i 0 ≡ size_in cs (get_or (young_objects g) i d).shape
    size-at i d below = get_or-map (size_of_object cs) (young_objects g) i d 0 below

    covers-is : (p i : ℕ) (d : Object) → i < length (young_objects g) → covers (at_of (young_homes homes g) i) (slice_index_or (young_sizes g) i 0) p ≡ has_bytes_in cs table p (get_or (young_objects g) i d)
    covers-is p i d below =
        ap (λ a. covers a (slice_index_or (young_sizes g) i 0) p) (home-at i d below) ∙ ap (λ n. covers (table (get_or (young_objects g) i d).number) n p) (size-at i d below)

    young-holds : (p : ℕ) (o : Object) → IsIn o g.objects → is_young o.place ≡ true → has_bytes_in cs table p o ≡ true → list_any (space.holds_page p) s.in_use ≡ true
    young-holds p o there young has =
        let at = in-contains (young_objects g) o (filter-in (λ (o : Object). is_young o.place) g.objects o there young) in
        packed.each p at.0 (omega (arith, at.1, length-map (young_objects g) (home_of table)))
        (covers-is p at.0 o at.1 ∙ ap (has_bytes_in cs table p) at.2 ∙ has)

    -- a page with bytes of an object lies in the window of its place
    pub page-in : (p : ℕ) (o : Object) → IsIn o g.objects → has_bytes_in g.classes (table_of homes g) p o ≡ true → is_in (window_of o.place) p ≡ true
    page-in p o there has = by o.place refl (stand homes g formed house o there) ((fits homes g formed house).placed o there) (has-bytes p o has)
      where
        by : (at : Place) → o.place ≡ at → Stand homes g formed house o at (table o.number) → IsPlacedAt at (table o.number) → HasBytes p o → is_in (window_of at) p ≡ true
        by (place.Image spot) e h placed b = window-in window.Image p (omega (arith, b.low, h.0, h.1)) (omega (arith, b.high, h.0, h.2, size-least cs o))
        by (place.Zygote spot) e h placed b = window-in window.Zygote p (omega (arith, b.low, h.0, h.1)) (omega (arith, b.high, h.0, h.2, size-least cs o))
        by place.Young e h placed b = rows-window s p sp (young-holds p o there (ap is_young e) has)
        by place.Large e h placed b =
            let small = not-large cs o.shape (not-too-large cs o.shape (shape-in cs g.objects o there formed.objects)) in
            window-in window.Large p (omega (arith, b.low, placed.2)) (omega (arith, b.high, placed.1, placed.2, small))
        by place.Promoted e h placed b =
            let small = not-large cs o.shape (not-too-large cs o.shape (shape-in cs g.objects o there formed.objects)) in
            window-in window.Large p (omega (arith, b.low, placed.2)) (omega (arith, b.high, placed.1, placed.2, small))

    -- the pages of the rows in use are those of the young objects
    pub region-pages : (p : ℕ) → is_in window.Regions p ≡ true → list_any (space.holds_page p) s.in_use ≡ list_any (has_bytes_in g.classes (table_of homes g) p) g.objects
    region-pages p is = same-bool _ _
        (λ e.
        let it = packed.covered p e in
        let below : it.0 < length (young_objects g) = omega (arith, it.1, length-map (young_objects g) (home_of table)) in
        let o : Object = get_or (young_objects g) it.0 no_object in
        any-to (has_bytes_in cs table p) g.objects o (in-filter (λ (o : Object). is_young o.place) g.objects o (in-at (young_objects g) it.0 no_object below)).0
        (sym (covers-is p it.0 no_object below) ∙ it.2))
        (λ e.
        let it = any-from (has_bytes_in cs table p) g.objects e in
        young-holds p it.0 it.1 (regions-young it.0.place (one-window p (window_of it.0.place) window.Regions (page-in p it.0 it.1 it.2) is)) it.2)

    pub large-pages : (p : ℕ) → is_in window.Large p ≡ true
        → list_any (large.holds_page p) (rows_from g.classes homes.slots 0 g.objects) ≡ list_any (has_bytes_in g.classes (table_of homes g) p) g.objects
    large-pages p is =
        let rows : List LargeRow = rows_from cs homes.slots 0 g.objects in
        let are = are-rows homes g formed house in
        same-bool _ _
        (λ e.
        let it = any-from (large.holds_page p) rows e in
        let from = object-there cs homes 0 g.next 0 0 g.objects formed.numbers it.0 it.1 in
        let bytes = All-contains (λ (row : LargeRow). IsBytes row.bytes) rows it.0 are.bytes (in-contains rows it.0 it.1) in
        any-to (has_bytes_in cs table p) g.objects from.object from.is_in (sym (row-bytes it.0 p from.object from.index (is_immune true from.object.place) from.row_is from.at_is bytes) ∙ it.2))
        (λ e.
        let it = any-from (has_bytes_in cs table p) g.objects e in
        let o : Object = it.0 in
        let to = row-there cs homes 0 g.next 0 0 g.objects formed.numbers o it.1 (large-slot o.place (one-window p (window_of o.place) window.Large (page-in p o it.1 it.2) is)) in
        let row : LargeRow = row_of cs homes.slots to.index o (is_immune true o.place) in
        let bytes = All-contains (λ (row : LargeRow). IsBytes row.bytes) rows row are.bytes (in-contains rows row to.there) in
        any-to (large.holds_page p) rows row to.there (row-bytes row p o to.index (is_immune true o.place) refl to.at_is bytes ∙ it.2))
