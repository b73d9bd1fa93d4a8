-- What a collection leaves is what the process keeps for the collected graph.
use Rattle.std.proofs.Common.{◌≡◌, ◌∙◌, ℕ, ◌*◌, ◌<◌, Bool, true, false, List, [], ◌++◌, map, filter, length, refl, sym, ap, subst, inl, inr, arith, true≢false}
use Rattle.std.specs.Prelude.{nat_eq, All, ◌||◌}
use Rattle.std.specs.List.{Contains, IsDistinct}
use Rattle.std.proofs.lemmas.Bool.{cases_Bool, cases_order, eqb-false, or_left, or_right}
use Rattle.std.proofs.lemmas.List.{length-map}
use Rattle.std.proofs.lemmas.List.Elements.{All-contains}
use Rattle.std.proofs.lemmas.Map.Keys.{apart_from_distinct}
use Rattle.model_numbers.specs.Numbers.{region_bytes}
use Rattle.class_layout.specs.Placing.{IsIn}
use Rattle.page_tables.specs.declared.address.Addr.{Addr}
use Rattle.cow_pages.specs.Memory.{Memory}
use Rattle.heap_graph.specs.declared.names.Place.{Place}
use Rattle.heap_graph.specs.declared.names.Place.TheVariants as place
use Rattle.heap_graph.specs.Collection.{collect}
use Rattle.heap_graph.specs.Formed.{IsFormed}
use Rattle.heap_graph.specs.Graph.{is_immune, Graph, Object}
use Rattle.heap_graph.specs.Packing.{end_from, places_from, used, young_objects, young_sizes}
use Rattle.heap_graph.specs.Paths.{numbers}
use Rattle.heap_graph.specs.Reach.{is_among, reached}
use Rattle.heap_graph.specs.Sizes.{parts_for}
use Rattle.heap_graph.specs.Table.{IsPlacedAt}
use Rattle.heap_world.proofs.FormedKept.{collect_formed}
use Rattle.address_table.specs.Computed.{table_of, AreNumbers, Homes, HouseAll}
use Rattle.address_table.proofs.Fitting.{fits}
use Rattle.region_lists.specs.Rows.{Row}
use Rattle.region_lists.proofs.MoveLemmas.{all-left}
use Rattle.region_space.specs.Packed.{address_in}
use Rattle.region_space.specs.Space.{lists_of, Space}
use Rattle.region_space.proofs.WalkLemmas.{in_use-apart}
use Rattle.large_objects.specs.declared.rows.LargeRow.{LargeRow}
use Rattle.large_objects.specs.Rows.{slot_base, AreRows}
use Rattle.large_objects.proofs.RowLemmas.{distinct-filter}
use Rattle.world_laws.specs.Named.{has_slot}
use Rattle.graph_pages.specs.Collected.{keeps}
use Rattle.graph_pages.proofs.Lists.{in-filter, in-map}
use Rattle.object_moves.specs.Copies.{sizes_at, PacksAt}
use Rattle.object_collection.specs.Collects.{HeapState, IsCollected, IsReached}
use Rattle.evacuate.specs.Stands.{home_of, homes_in, homes_of, raws_of, rows_from, young_homes, KeepsGraph}
use Rattle.evacuate.proofs.Members.{all-from, in-contains, map-twice, same-addresses}
use Rattle.evacuate.proofs.Packed.{by-count, by-there, row_by, rows-are-by, rows-by-are, rows-kept, rows_by, slot_in, young-table}
use Rattle.evacuate.proofs.Reach.{reached-same}
use Rattle.evacuate.proofs.Rows.{slots_of}
use Rattle.evacuate.proofs.Stand.{are-rows}
use Rattle.evacuate.proofs.Young.{sizes-collected, young-are}

pub same-bool : (a b : Bool) → (a ≡ true → b ≡ true) → (b ≡ true → a ≡ true) → a ≡ b
same-bool true true there back = refl
same-bool true false there back = sym (there refl)
same-bool false true there back = back refl
same-bool false false there back = refl

-- numbers below so many, each once
numbers-from : (most : ℕ) (ks : List ℕ) → All (λ n. n < most) ks → IsDistinct nat_eq ks → AreNumbers most ks
numbers-from most ks within apart = (
  (λ i below. within i 0 below),
  (λ i j i_below j_below same. elim (cases_order i j) [
    | inl e ↦ e
    | inr o ↦ elim o [
      | inl low ↦ absurd (eqb-false _ _ (apart_from_distinct nat_eq ks i j 0 apart low j_below) same)
      | inr high ↦ absurd (eqb-false _ _ (apart_from_distinct nat_eq ks j i 0 apart high i_below) (sym same))
    ]
  ]),
)

-- a slot's address
pub slot-back : (at : Place) (a : ℕ) → has_slot at ≡ true → IsPlacedAt at a → slot_base (slot_in a) ≡ a
slot-back (place.Image spot) a is p = absurd (true≢false (sym is))
slot-back (place.Zygote spot) a is p = absurd (true≢false (sym is))
slot-back place.Young a is p = absurd (true≢false (sym is))
slot-back place.Large a is p = omega (arith, p.2)
slot-back place.Promoted a is p = omega (arith, p.2)

module _ (h : HeapState) (old new : Memory) (t : ℕ) (g : Graph) (regions : Space) (rows : List LargeRow) (roots : List Addr) (k : KeepsGraph h old t g)
    (c : IsCollected h new t (raws_of (homes_of h) g) regions rows roots) where
  abbrev pub left : Graph
  left = collect g

  abbrev pub next_homes : Homes
  next_homes = homes_in regions.in_use rows

  abbrev pub table : ℕ → ℕ
  table = table_of (homes_of h) g

  abbrev pub next : ℕ → ℕ
  next = table_of (homes_in regions.in_use rows) (collect g)

  abbrev pub kept : List ℕ
  kept = numbers (filter (keeps g) g.objects)

  pub formed : IsFormed (collect g)
  formed = collect_formed g k.is_sealed k.heap.formed

  -- YOUNG

  pub young-is : c.young ≡ map (home_of (table_of (homes_of h) g)) (filter (keeps g) (young_objects g))
  young-is = young-are h old t g k c.young c.leads.listed

  pub sizes-is : sizes_at h.classes (raws_of (homes_of h) g) c.young ≡ young_sizes (collect g)
  sizes-is =
      ap (λ cs. sizes_at cs (raws_of (homes_of h) g) c.young) k.heap.stands.classes ∙ ap (sizes_at g.classes (raws_of (homes_of h) g)) young-is ∙ sizes-collected h old t g k

  -- the new addresses are those of the collected graph's young objects
  pub moved-is : c.moved ≡ young_homes (homes_in regions.in_use rows) (collect g)
  moved-is =
      same-addresses c.moved (young_homes next_homes left)
      (c.packed.places ∙ ap (λ ss. map (address_in regions.in_use) (places_from 0 ss)) sizes-is
      ∙ sym (young-table next_homes g.classes 0 left.next 0 0 left.objects formed.numbers) ∙ sym (map-twice (λ (a : Addr). a.0) (home_of next) (young_objects left)))

  pub packed : PacksAt regions.in_use (young_sizes (collect g)) (young_homes (homes_in regions.in_use rows) (collect g))
  packed = subst (λ ss. PacksAt regions.in_use ss (young_homes next_homes left)) sizes-is (subst (λ ats. PacksAt regions.in_use (sizes_at h.classes (raws_of (homes_of h) g) c.young) ats) moved-is c.packed)

  -- LARGE

  old-rows : h.rows ≡ rows_by g.classes table g.objects
  old-rows = k.heap.stands.rows ∙ rows-are-by (homes_of h) g.classes table 0 g.next 0 0 g.objects k.heap.formed.numbers (λ o there. refl)

  pub old-are : AreRows h.rows
  old-are = subst AreRows (sym k.heap.stands.rows) (are-rows (homes_of h) g k.heap.formed k.heap.house)

  -- a row stays where its object is kept
  stays-is : (o : Object) → IsIn o g.objects → has_slot o.place ≡ true → c.rows_left.stays (row_by g.classes table o (is_immune true o.place)) ≡ keeps g o
  stays-is o there is =
      let row : LargeRow = row_by g.classes table o (is_immune true o.place) in
      let there_row : Contains h.rows row = in-contains h.rows row (subst (IsIn row) (sym old-rows) (by-there g.classes table g.objects o there is)) in
      let back : slot_base (slot_in (table o.number)) ≡ table o.number = slot-back o.place (table o.number) is ((fits (homes_of h) g k.heap.formed k.heap.house).placed o there) in
      let seal : is_immune g.sealed o.place ≡ is_immune true o.place = ap (λ b. is_immune b o.place) k.is_sealed in
      same-bool _ _
      (λ e. elim ((c.rows_left.test row there_row).0 e) [
        | inl promoted ↦ or_left _ _ (seal ∙ promoted)
        | inr r ↦ or_right (is_immune g.sealed o.place) _ ((reached-same h old t g k o there).1 (subst (IsReached h (raws_of (homes_of h) g)) back r)).0
      ])
      (λ e. (c.rows_left.test row there_row).1 (elim (cases_Bool (is_immune g.sealed o.place)) [
        | inl immune ↦ inl (sym seal ∙ immune)
        | inr free ↦ inr (subst (IsReached h (raws_of (homes_of h) g)) (sym back) ((reached-same h old t g k o there).0 (sym (ap (λ b. b || is_among (reached g) o.number) free) ∙ e, free)))
      ]))

  pub rows-by-is : rows ≡ rows_by g.classes (table_of (homes_of h) g) (collect g).objects
  rows-by-is = c.rows_left.rows_are ∙ ap (filter c.rows_left.stays) old-rows ∙ rows-kept g.classes table c.rows_left.stays (keeps g) kept g.objects stays-is

  -- the rows are those of the collected graph
  pub rows-is : rows ≡ rows_from g.classes (homes_in regions.in_use rows).slots 0 (collect g).objects
  rows-is =
      rows-by-is ∙ sym (rows-by-are g.classes table [] left.objects) ∙ ap (λ rs. rows_from g.classes (slots_of rs) 0 left.objects) (sym rows-by-is)

  -- there are (homes_of h) for all
  pub housed : HouseAll (homes_in regions.in_use rows) (collect g)
  housed = record {
    regions = numbers-from (2 * g.budget) (map (λ (row : Row). row.region) regions.in_use)
        (λ i d below.
        let all = all-left (λ n. n < regions.count) (map (λ (row : Row). row.region) regions.in_use) (map (λ (row : Row). row.region) regions.from)
        (all-left (λ n. n < regions.count) (map (λ (row : Row). row.region) regions.in_use ++ map (λ (row : Row). row.region) regions.from) regions.free c.held.space.lists.within) in
        omega (arith, all i d below, c.count, k.heap.stands.count))
        (in_use-apart (lists_of regions) c.held.space);
    slots = numbers-from 512 (slots_of rows)
        (all-from (λ n. n < 512) (slots_of rows) (λ n there.
        let it = in-map (λ (row : LargeRow). row.slot) rows n there in
        let was = in-filter c.rows_left.stays h.rows it.0 (subst (IsIn it.0) c.rows_left.rows_are it.1) in
        subst (λ s. s < 512) it.2 (All-contains (λ (row : LargeRow). row.slot < 512) h.rows it.0 old-are.within (in-contains h.rows it.0 was.0))))
        (subst (λ rs. IsDistinct nat_eq (slots_of rs)) (sym c.rows_left.rows_are) (distinct-filter c.rows_left.stays h.rows old-are.apart));
    for_young =
        let pack = c.packed.pack.used in
        let is : parts_for region_bytes (end_from 0 (sizes_at h.classes (raws_of (homes_of h) g) c.young)) ≡ used left = ap (λ ss. parts_for region_bytes (end_from 0 ss)) sizes-is in
        omega (arith, pack, is, length-map regions.in_use (λ (row : Row). row.region));
    for_large = omega (arith, by-count g.classes table 0 left.objects, ap length rows-by-is, length-map rows (λ (row : LargeRow). row.slot));
  }
