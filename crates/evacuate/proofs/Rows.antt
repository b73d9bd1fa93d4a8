-- The rows of a graph's large objects.
use Rattle.std.proofs.Common.{◌≡◌, ◌∙◌, ℕ, ◌+◌, ◌<◌, ◌≤◌, true, false, List, [], ◌∷◌, length, map, refl, sym, ap, subst, inl, inr, arith, true≢false}
use Rattle.std.specs.Prelude.{nat_eq, slice_index}
use Rattle.std.specs.List.{AllByRecursion, Contains, IsDistinct}
use Rattle.std.proofs.lemmas.Bool.{ne_eqb}
use Rattle.std.proofs.lemmas.Map.Keys.{IsDistinct-cons}
use Rattle.class_layout.specs.ClassList.{Class}
use Rattle.class_layout.specs.Placing.{IsIn}
use Rattle.heap_graph.specs.declared.names.Place.{Place}
use Rattle.heap_graph.specs.declared.names.Place.TheVariants as place
use Rattle.heap_graph.specs.Formed.{AreRising, IsFormed}
use Rattle.heap_graph.specs.Graph.{is_immune, Graph, Object}
use Rattle.address_table.specs.Computed.{address_in, end_behind, large_behind, large_count, slot_at, table_from, table_of, AreNumbers, Homes}
use Rattle.address_table.proofs.Behind.{count-rises, rising-in, table-first, table-later}
use Rattle.large_objects.specs.declared.rows.LargeRow.{LargeRow}
use Rattle.large_objects.specs.Rows as large
use Rattle.large_objects.specs.Rows.{slot_base}
use Rattle.large_objects.proofs.RowLemmas.{rising-lower}
use Rattle.graph_pages.proofs.Lists.{in-filter}
use Rattle.world_laws.specs.Named.{has_slot}
use Rattle.raw_objects.specs.Raws.{Raws}
use Rattle.object_collection.specs.Collects.{AreRowsLeft, HeapState}
use Rattle.evacuate.specs.Stands.{homes_of, row_of, rows_from, with_row, StandsFor}
use Rattle.evacuate.proofs.Members.{contains-in, in-contains}

abbrev pub slots_of : List LargeRow → List ℕ
slots_of rows = map (λ (row : LargeRow). row.slot) rows

module _ (cs : List Class) (homes : Homes) where
  -- the row of an object, the j-th large one, at its address
  pub record RowOf (o : Object) (k most at : ℕ) (rows : List LargeRow) : Type 0 where
    pub index : ℕ
    pub low : k ≤ index
    pub high : index < most
    pub at_is : at ≡ slot_at homes.slots index
    pub there : IsIn (row_of cs homes.slots index o (is_immune true o.place)) rows

  abbrev rows : ℕ → List Object → List LargeRow
  rows k os = rows_from cs homes.slots k os

  -- the rows behind an object's
  behind-row : (k : ℕ) (o : Object) (at : Place) (rest : List LargeRow) (row : LargeRow) → IsIn row rest → IsIn row (with_row cs homes.slots k o at rest)
  behind-row k o (place.Image spot) rest row there = there
  behind-row k o (place.Zygote spot) rest row there = there
  behind-row k o place.Young rest row there = there
  behind-row k o place.Large rest row there = inr there
  behind-row k o place.Promoted rest row there = inr there

  large-rises : (k : ℕ) (at : Place) → k ≤ large_behind k at
  large-rises k (place.Image spot) = omega arith
  large-rises k (place.Zygote spot) = omega arith
  large-rises k place.Young = omega arith
  large-rises k place.Large = omega arith
  large-rises k place.Promoted = omega arith

  -- each large object has a row
  pub row-there : (low next end k : ℕ) (os : List Object) → AreRising low next os → (o : Object) → IsIn o os → has_slot o.place ≡ true
      → RowOf o k (large_count k os) (table_from homes cs end k os o.number) (rows k os)
  row-there low next end k [] rising o none is = absurd none
  row-there low next end k (x ∷ os) rising o (inl e) is =
      subst (λ (y : Object). RowOf y k (large_count k (x ∷ os)) (table_from homes cs end k (x ∷ os) y.number) (rows k (x ∷ os))) e
      (subst (λ n. RowOf x k (large_count k (x ∷ os)) n (rows k (x ∷ os))) (sym (table-first homes cs end k x os)) (by x.place refl (ap (λ (y : Object). has_slot y.place) e ∙ is)))
    where
      by : (at : Place) → x.place ≡ at → has_slot at ≡ true → RowOf x k (large_count (large_behind k x.place) os) (address_in homes cs end k x x.place) (with_row cs homes.slots k x x.place (rows (large_behind k x.place) os))
      by (place.Image spot) same is = absurd (true≢false (sym is))
      by (place.Zygote spot) same is = absurd (true≢false (sym is))
      by place.Young same is = absurd (true≢false (sym is))
      by place.Large same is = record {
        index = k;
        low = omega arith;
        high = subst (λ (p : Place). k < large_count (large_behind k p) os) (sym same) (omega (arith, count-rises (k + 1) os));
        at_is = ap (address_in homes cs end k x) same;
        there = subst (λ (p : Place). IsIn (row_of cs homes.slots k x (is_immune true p)) (with_row cs homes.slots k x p (rows (large_behind k p) os))) (sym same) (inl refl);
      }
      by place.Promoted same is = record {
        index = k;
        low = omega arith;
        high = subst (λ (p : Place). k < large_count (large_behind k p) os) (sym same) (omega (arith, count-rises (k + 1) os));
        at_is = ap (address_in homes cs end k x) same;
        there = subst (λ (p : Place). IsIn (row_of cs homes.slots k x (is_immune true p)) (with_row cs homes.slots k x p (rows (large_behind k p) os))) (sym same) (inl refl);
      }
  row-there low next end k (x ∷ os) rising o (inr later) is =
      let above = rising-in (x.number + 1) next os o rising.1 later in
      let rest = row-there (x.number + 1) next (end_behind cs end x x.place) (large_behind k x.place) os rising.1 o later is in
      record {
        index = rest.index;
        low = omega (arith, rest.low, large-rises k x.place);
        high = rest.high;
        at_is = table-later homes cs end k x os o.number (omega (arith, above)) ∙ rest.at_is;
        there = behind-row k x x.place (rows (large_behind k x.place) os) _ rest.there;
      }

  -- what is known of a row: it is that of an object
  pub record ObjectOf (row : LargeRow) (k most : ℕ) (os : List Object) (table : ℕ → ℕ) : Type 0 where
    pub object : Object
    pub is_in : IsIn object os
    pub has : has_slot object.place ≡ true
    pub index : ℕ
    pub low : k ≤ index
    pub high : index < most
    pub row_is : row_of cs homes.slots index object (is_immune true object.place) ≡ row
    pub at_is : table object.number ≡ slot_at homes.slots index

  pub object-there : (low next end k : ℕ) (os : List Object) → AreRising low next os → (row : LargeRow) → IsIn row (rows k os)
      → ObjectOf row k (large_count k os) os (table_from homes cs end k os)
  object-there low next end k [] rising row none = absurd none
  object-there low next end k (x ∷ os) rising row there = by x.place refl there (object-there (x.number + 1) next (end_behind cs end x x.place) (large_behind k x.place) os rising.1 row)
    where
      later : (IsIn row (rows (large_behind k x.place) os) → ObjectOf row (large_behind k x.place) (large_count (large_behind k x.place) os) os (table_from homes cs (end_behind cs end x x.place) (large_behind k x.place) os)) → IsIn row (rows (large_behind k x.place) os) → ObjectOf row k (large_count k (x ∷ os)) (x ∷ os) (table_from homes cs end k (x ∷ os))
      later more there =
          let rest = more there in
          let above = rising-in (x.number + 1) next os rest.object rising.1 rest.is_in in
          record {
            object = rest.object;
            is_in = inr rest.is_in;
            has = rest.has;
            index = rest.index;
            low = omega (arith, rest.low, large-rises k x.place);
            high = rest.high;
            row_is = rest.row_is;
            at_is = table-later homes cs end k x os rest.object.number (omega (arith, above)) ∙ rest.at_is;
          }

      first : (at : Place) → x.place ≡ at → has_slot at ≡ true → large_behind k at ≡ k + 1 → address_in homes cs end k x at ≡ slot_at homes.slots k → row_of cs homes.slots k x (is_immune true at) ≡ row
          → ObjectOf row k (large_count k (x ∷ os)) (x ∷ os) (table_from homes cs end k (x ∷ os))
      first at same has one address is = record {
        object = x;
        is_in = inl refl;
        has = ap has_slot same ∙ has;
        index = k;
        low = omega arith;
        high = let behind : large_behind k x.place ≡ k + 1 = ap (large_behind k) same ∙ one in omega (arith, behind, count-rises (large_behind k x.place) os);
        row_is = ap (λ (p : Place). row_of cs homes.slots k x (is_immune true p)) same ∙ is;
        at_is = table-first homes cs end k x os ∙ ap (address_in homes cs end k x) same ∙ address;
      }

      by : (at : Place) → x.place ≡ at → IsIn row (with_row cs homes.slots k x at (rows (large_behind k at) os)) → (IsIn row (rows (large_behind k x.place) os) → ObjectOf row (large_behind k x.place) (large_count (large_behind k x.place) os) os (table_from homes cs (end_behind cs end x x.place) (large_behind k x.place) os)) → ObjectOf row k (large_count k (x ∷ os)) (x ∷ os) (table_from homes cs end k (x ∷ os))
      by (place.Image spot) same there more = later more (subst (λ (p : Place). IsIn row (rows (large_behind k p) os)) (sym same) there)
      by (place.Zygote spot) same there more = later more (subst (λ (p : Place). IsIn row (rows (large_behind k p) os)) (sym same) there)
      by place.Young same there more = later more (subst (λ (p : Place). IsIn row (rows (large_behind k p) os)) (sym same) there)
      by place.Large same (inl is) more = first place.Large same refl refl refl is
      by place.Large same (inr there) more = later more (subst (λ (p : Place). IsIn row (rows (large_behind k p) os)) (sym same) there)
      by place.Promoted same (inl is) more = first place.Promoted same refl refl refl is
      by place.Promoted same (inr there) more = later more (subst (λ (p : Place). IsIn row (rows (large_behind k p) os)) (sym same) there)

  -- the rows stand by rising number
  pub rows-rise : (low next k : ℕ) (os : List Object) → AreRising low next os → large.AreRising low (rows k os)
  rows-rise low next k [] rising = tt
  rows-rise low next k (x ∷ os) rising = by x.place (λ n. rows-rise (x.number + 1) next n os rising.1)
    where
      by : (at : Place) → ((n : ℕ) → large.AreRising (x.number + 1) (rows n os)) → large.AreRising low (with_row cs homes.slots k x at (rows (large_behind k at) os))
      by (place.Image spot) rest = rising-lower low (x.number + 1) (rows k os) (omega (arith, rising.0)) (rest k)
      by (place.Zygote spot) rest = rising-lower low (x.number + 1) (rows k os) (omega (arith, rising.0)) (rest k)
      by place.Young rest = rising-lower low (x.number + 1) (rows k os) (omega (arith, rising.0)) (rest k)
      by place.Large rest = (rising.0, rest (k + 1))
      by place.Promoted rest = (rising.0, rest (k + 1))

  -- each in a slot of its own
  module _ (slots : AreNumbers 512 homes.slots) where
    others : (j k : ℕ) (os : List Object) → j < k → large_count k os ≤ length homes.slots → AllByRecursion (λ y. nat_eq (slice_index homes.slots j) y ≡ false) (slots_of (rows k os))
    others j k [] less most = tt
    others j k (x ∷ os) less most = by x.place (λ n lt le. others j n os lt le) most
      where
        apart : k + 1 ≤ length homes.slots → nat_eq (slice_index homes.slots j) (slice_index homes.slots k) ≡ false
        apart fits = ne_eqb (slice_index homes.slots j) (slice_index homes.slots k) (λ same. let e = slots.1 j k (omega arith) (omega arith) same in omega (arith, e, less))

        by : (at : Place) → ((n : ℕ) → j < n → large_count n os ≤ length homes.slots → AllByRecursion (λ y. nat_eq (slice_index homes.slots j) y ≡ false) (slots_of (rows n os)))
            → large_count (large_behind k at) os ≤ length homes.slots → AllByRecursion (λ y. nat_eq (slice_index homes.slots j) y ≡ false) (slots_of (with_row cs homes.slots k x at (rows (large_behind k at) os)))
        by (place.Image spot) rest most = rest k less most
        by (place.Zygote spot) rest most = rest k less most
        by place.Young rest most = rest k less most
        by place.Large rest most = (apart (omega (arith, most, count-rises (k + 1) os)), rest (k + 1) (omega (arith, less)) most)
        by place.Promoted rest most = (apart (omega (arith, most, count-rises (k + 1) os)), rest (k + 1) (omega (arith, less)) most)

    pub rows-apart : (k : ℕ) (os : List Object) → large_count k os ≤ length homes.slots → IsDistinct nat_eq (slots_of (rows k os))
    unfolding IsDistinct
    rows-apart k [] most = tt
    rows-apart k (x ∷ os) most = by x.place (λ n le. rows-apart n os le) most
      where
        by : (at : Place) → ((n : ℕ) → large_count n os ≤ length homes.slots → IsDistinct nat_eq (slots_of (rows n os)))
            → large_count (large_behind k at) os ≤ length homes.slots → IsDistinct nat_eq (slots_of (with_row cs homes.slots k x at (rows (large_behind k at) os)))
        by (place.Image spot) rest most = rest k most
        by (place.Zygote spot) rest most = rest k most
        by place.Young rest most = rest k most
        by place.Large rest most = IsDistinct-cons nat_eq (slice_index homes.slots k) (slots_of (rows (k + 1) os)) (others k (k + 1) os (omega arith) most) (rest (k + 1) most)
        by place.Promoted rest most = IsDistinct-cons nat_eq (slice_index homes.slots k) (slots_of (rows (k + 1) os)) (others k (k + 1) os (omega arith) most) (rest (k + 1) most)

-- a process keeps a row at its object's address
pub row-address : (h : HeapState) (g : Graph) (row : LargeRow) → IsFormed g → StandsFor h g → Contains h.rows row → table_of (homes_of h) g row.number ≡ slot_base row.slot
row-address h g row formed stands there =
    let it = object-there g.classes (homes_of h) 0 g.next 0 0 g.objects formed.numbers row (subst (IsIn row) stands.rows (contains-in h.rows row there)) in
    sym (ap (λ (r : LargeRow). table_of (homes_of h) g r.number) it.row_is) ∙ it.at_is ∙ ap (λ (r : LargeRow). slot_base r.slot) it.row_is

-- each row that a collection leaves was there before
pub row-before : (h : HeapState) (raws : Raws) (rows : List LargeRow) (row : LargeRow) → AreRowsLeft h raws rows → Contains rows row → Contains h.rows row
row-before h raws rows row left there = in-contains h.rows row (in-filter left.stays h.rows row (subst (IsIn row) left.rows_are (contains-in rows row there))).0
