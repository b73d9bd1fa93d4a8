-- The young objects of a graph at their packing places, and the rows of its large ones by the slots of their addresses.
use Rattle.std.proofs.Common.{◌≡◌, ◌∙◌, ℕ, ◌+◌, ◌-◌, ◌/◌, Bool, true, false, cond, List, [], ◌∷◌, ◌++◌, map, filter, length, get_or, refl, sym, ap, subst, inl, inr, arith, true≢false}
use Rattle.std.specs.Prelude.{slice_index}
use Rattle.std.proofs.lemmas.List.{append_assoc, length-append}
use Rattle.model_numbers.specs.Numbers.{large_base, large_slot_bytes}
use Rattle.class_layout.specs.ClassList.{Class}
use Rattle.class_layout.specs.Placing.{IsIn}
use Rattle.heap_graph.specs.declared.names.Place.{Place}
use Rattle.heap_graph.specs.declared.names.Place.TheVariants as place
use Rattle.heap_graph.specs.Formed.{AreRising}
use Rattle.heap_graph.specs.Collection.{cleared}
use Rattle.heap_graph.specs.Graph.{is_immune, is_young, size_of_object, Object}
use Rattle.heap_graph.specs.Packing.{after, places_from}
use Rattle.heap_graph.specs.Packing as packing
use Rattle.heap_graph.specs.Sizes.{unrounded}
use Rattle.address_table.specs.Computed.{address_in, end_behind, large_behind, large_count, packed_at, slot_at, table_from, Homes}
use Rattle.address_table.proofs.Behind.{rising-in, table-first, table-later}
use Rattle.graph_pages.proofs.Lists.{in-filter}
use Rattle.large_objects.specs.declared.rows.LargeRow.{LargeRow}
use Rattle.world_laws.specs.Named.{has_slot}
use Rattle.evacuate.specs.Stands.{row_of, rows_from, with_row}
use Rattle.evacuate.proofs.Members.{map-same}
use Rattle.evacuate.proofs.Rows.{slots_of}

module _ (homes : Homes) (cs : List Class) where
  -- the addresses of the young ones are those of their packing places
  pub young-table : (low next end large : ℕ) (os : List Object) → AreRising low next os
      → map (λ (o : Object). table_from homes cs end large os o.number) (filter (λ (o : Object). is_young o.place) os)
      ≡ map (packed_at homes.regions) (places_from end (map (size_of_object cs) (filter (λ (o : Object). is_young o.place) os)))
  young-table low next end large [] rising = refl
  young-table low next end large (x ∷ os) rising = by x.place refl (λ e l. young-table (x.number + 1) next e l os rising.1)
    where
      young : List Object
      young = filter (λ (o : Object). is_young o.place) os

      -- the table is that of the rest, on the rest
      later : map (λ (o : Object). table_from homes cs end large (x ∷ os) o.number) (filter (λ (o : Object). is_young o.place) os)
          ≡ map (λ (o : Object). table_from homes cs (end_behind cs end x x.place) (large_behind large x.place) os o.number) (filter (λ (o : Object). is_young o.place) os)
      later = map-same _ _ (filter (λ (o : Object). is_young o.place) os) (λ o there.
          let above = rising-in (x.number + 1) next os o rising.1 (in-filter (λ (o : Object). is_young o.place) os o there).0 in
          table-later homes cs end large x os o.number (omega (arith, above)))

      by : (at : Place) → x.place ≡ at
          → ((e l : ℕ) → map (λ (o : Object). table_from homes cs e l os o.number) (filter (λ (o : Object). is_young o.place) os) ≡ map (packed_at homes.regions) (places_from e (map (size_of_object cs) (filter (λ (o : Object). is_young o.place) os))))
          → map (λ (o : Object). table_from homes cs end large (x ∷ os) o.number) (cond (is_young at) (x ∷ filter (λ (o : Object). is_young o.place) os) (filter (λ (o : Object). is_young o.place) os))
          ≡ map (packed_at homes.regions) (places_from end (map (size_of_object cs) (cond (is_young at) (x ∷ filter (λ (o : Object). is_young o.place) os) (filter (λ (o : Object). is_young o.place) os))))
      by (place.Image spot) is rest = later ∙ ap (λ (p : Place). map (λ (o : Object). table_from homes cs (end_behind cs end x p) (large_behind large p) os o.number) (filter (λ (o : Object). is_young o.place) os)) is ∙ rest end large
      by (place.Zygote spot) is rest = later ∙ ap (λ (p : Place). map (λ (o : Object). table_from homes cs (end_behind cs end x p) (large_behind large p) os o.number) (filter (λ (o : Object). is_young o.place) os)) is ∙ rest end large
      by place.Large is rest = later ∙ ap (λ (p : Place). map (λ (o : Object). table_from homes cs (end_behind cs end x p) (large_behind large p) os o.number) (filter (λ (o : Object). is_young o.place) os)) is ∙ rest end (large + 1)
      by place.Promoted is rest = later ∙ ap (λ (p : Place). map (λ (o : Object). table_from homes cs (end_behind cs end x p) (large_behind large p) os o.number) (filter (λ (o : Object). is_young o.place) os)) is ∙ rest end (large + 1)
      by place.Young is rest =
          let s : ℕ = size_of_object cs x in
          ap (λ n. n ∷ map (λ (o : Object). table_from homes cs end large (x ∷ os) o.number) (filter (λ (o : Object). is_young o.place) os)) (table-first homes cs end large x os ∙ ap (address_in homes cs end large x) is)
          ∙ ap (λ ns. packed_at homes.regions (packing.place end s) ∷ ns)
          (later ∙ ap (λ (p : Place). map (λ (o : Object). table_from homes cs (end_behind cs end x p) (large_behind large p) os o.number) (filter (λ (o : Object). is_young o.place) os)) is ∙ rest (after end s) large)

-- ROWS BY NUMBER

-- the slot that begins at an address
abbrev pub slot_in : ℕ → ℕ
slot_in at = (at - large_base) / large_slot_bytes

-- the row of an object at an address
abbrev pub row_by : List Class → (ℕ → ℕ) → Object → Bool → LargeRow
row_by cs table o promoted = record { number = o.number; slot = slot_in (table o.number); bytes = unrounded cs o.shape; promoted = promoted; marked = false }

-- the same in any slot
abbrev with_slot : List Class → Object → Bool → ℕ → LargeRow
with_slot cs o promoted slot = record { number = o.number; slot = slot; bytes = unrounded cs o.shape; promoted = promoted; marked = false }

abbrev pub with_row_by : List Class → (ℕ → ℕ) → Object → Place → List LargeRow → List LargeRow
with_row_by cs table o (place.Image spot) rows = rows
with_row_by cs table o (place.Zygote spot) rows = rows
with_row_by cs table o place.Young rows = rows
with_row_by cs table o place.Large rows = row_by cs table o false ∷ rows
with_row_by cs table o place.Promoted rows = row_by cs table o true ∷ rows

abbrev pub rows_by : List Class → (ℕ → ℕ) → List Object → List LargeRow
rows_by cs table [] = []
rows_by cs table (o ∷ os) = with_row_by cs table o o.place (rows_by cs table os)

module _ (homes : Homes) (cs : List Class) (table : ℕ → ℕ) where
  -- the rows by their places among the large objects are those by their addresses
  pub rows-are-by : (low next end k : ℕ) (os : List Object) → AreRising low next os → ((o : Object) → IsIn o os → table o.number ≡ table_from homes cs end k os o.number)
      → rows_from cs homes.slots k os ≡ rows_by cs table os
  rows-are-by low next end k [] rising same = refl
  rows-are-by low next end k (x ∷ os) rising same =
      by x.place refl (λ e l at. rows-are-by (x.number + 1) next e l os rising.1 (λ o there.
      let above = rising-in (x.number + 1) next os o rising.1 there in
      same o (inr there) ∙ table-later homes cs end k x os o.number (omega (arith, above)) ∙ at o))
    where
      here : table x.number ≡ address_in homes cs end k x x.place
      here = same x (inl refl) ∙ table-first homes cs end k x os

      slot : table x.number ≡ slot_at homes.slots k → slice_index homes.slots k ≡ slot_in (table x.number)
      slot is = omega (arith, is)

      by : (at : Place) → x.place ≡ at
          → ((e l : ℕ) → ((o : Object) → table_from homes cs (end_behind cs end x x.place) (large_behind k x.place) os o.number ≡ table_from homes cs e l os o.number) → rows_from cs homes.slots l os ≡ rows_by cs table os)
          → with_row cs homes.slots k x at (rows_from cs homes.slots (large_behind k at) os) ≡ with_row_by cs table x at (rows_by cs table os)
      by (place.Image spot) is rest = rest end k (λ o. ap (λ (p : Place). table_from homes cs (end_behind cs end x p) (large_behind k p) os o.number) is)
      by (place.Zygote spot) is rest = rest end k (λ o. ap (λ (p : Place). table_from homes cs (end_behind cs end x p) (large_behind k p) os o.number) is)
      by place.Young is rest = rest (after end (size_of_object cs x)) k (λ o. ap (λ (p : Place). table_from homes cs (end_behind cs end x p) (large_behind k p) os o.number) is)
      by place.Large is rest =
          let tail = rest end (k + 1) (λ o. ap (λ (p : Place). table_from homes cs (end_behind cs end x p) (large_behind k p) os o.number) is) in
          let s = slot (here ∙ ap (address_in homes cs end k x) is) in
          ap (λ n. with_slot cs x false n ∷ rows_from cs homes.slots (k + 1) os) s ∙ ap (λ rows. row_by cs table x false ∷ rows) tail
      by place.Promoted is rest =
          let tail = rest end (k + 1) (λ o. ap (λ (p : Place). table_from homes cs (end_behind cs end x p) (large_behind k p) os o.number) is) in
          let s = slot (here ∙ ap (address_in homes cs end k x) is) in
          ap (λ n. with_slot cs x true n ∷ rows_from cs homes.slots (k + 1) os) s ∙ ap (λ rows. row_by cs table x true ∷ rows) tail

module _ (cs : List Class) (table : ℕ → ℕ) where
  -- and the rows by their addresses are those by their places, in the slots that they have
  pub rows-by-are : (front : List ℕ) (os : List Object) → rows_from cs (front ++ slots_of (rows_by cs table os)) (length front) os ≡ rows_by cs table os
  rows-by-are front [] = refl
  rows-by-are front (x ∷ os) = by x.place (rows-by-are front os) (λ n. rows-by-are (front ++ n ∷ []) os)
    where
      index : (front : List ℕ) (n : ℕ) (rest : List ℕ) → get_or (front ++ n ∷ rest) (length front) 0 ≡ n
      index [] n rest = refl
      index (y ∷ front) n rest = index front n rest

      step : (x : Object) (promoted : Bool) → rows_from cs ((front ++ slot_in (table x.number) ∷ []) ++ slots_of (rows_by cs table os)) (length (front ++ slot_in (table x.number) ∷ [])) os ≡ rows_by cs table os
          → row_of cs (front ++ slot_in (table x.number) ∷ slots_of (rows_by cs table os)) (length front) x promoted ∷ rows_from cs (front ++ slot_in (table x.number) ∷ slots_of (rows_by cs table os)) (length front + 1) os
          ≡ row_by cs table x promoted ∷ rows_by cs table os
      step x promoted rest =
          let n : ℕ = slot_in (table x.number) in
          let slots : List ℕ = slots_of (rows_by cs table os) in
          ap (λ s. with_slot cs x promoted s ∷ rows_from cs (front ++ n ∷ slots) (length front + 1) os) (index front n slots)
          ∙ ap (λ rows. row_by cs table x promoted ∷ rows)
          (ap (λ ss. rows_from cs ss (length front + 1) os) (sym (append_assoc front (n ∷ []) slots)) ∙ ap (λ i. rows_from cs ((front ++ n ∷ []) ++ slots) i os) (sym (length-append front (n ∷ []))) ∙ rest)

      by : (at : Place) → rows_from cs (front ++ slots_of (rows_by cs table os)) (length front) os ≡ rows_by cs table os
          → ((n : ℕ) → rows_from cs ((front ++ n ∷ []) ++ slots_of (rows_by cs table os)) (length (front ++ n ∷ [])) os ≡ rows_by cs table os)
          → with_row cs (front ++ slots_of (with_row_by cs table x at (rows_by cs table os))) (length front) x at (rows_from cs (front ++ slots_of (with_row_by cs table x at (rows_by cs table os))) (large_behind (length front) at) os)
          ≡ with_row_by cs table x at (rows_by cs table os)
      by (place.Image spot) same more = same
      by (place.Zygote spot) same more = same
      by place.Young same more = same
      by place.Large same more = step x false (more (slot_in (table x.number)))
      by place.Promoted same more = step x true (more (slot_in (table x.number)))

  -- each large object has a row
  pub by-there : (os : List Object) (o : Object) → IsIn o os → has_slot o.place ≡ true → IsIn (row_by cs table o (is_immune true o.place)) (rows_by cs table os)
  by-there [] o none is = absurd none
  by-there (x ∷ os) o (inl e) is = subst (λ (y : Object). IsIn (row_by cs table y (is_immune true y.place)) (rows_by cs table (x ∷ os))) e (by x.place (ap (λ (y : Object). has_slot y.place) e ∙ is))
    where
      by : (at : Place) → has_slot at ≡ true → IsIn (row_by cs table x (is_immune true at)) (with_row_by cs table x at (rows_by cs table os))
      by (place.Image spot) is = absurd (true≢false (sym is))
      by (place.Zygote spot) is = absurd (true≢false (sym is))
      by place.Young is = absurd (true≢false (sym is))
      by place.Large is = inl refl
      by place.Promoted is = inl refl
  by-there (x ∷ os) o (inr later) is = by x.place (by-there os o later is)
    where
      by : (at : Place) → IsIn (row_by cs table o (is_immune true o.place)) (rows_by cs table os) → IsIn (row_by cs table o (is_immune true o.place)) (with_row_by cs table x at (rows_by cs table os))
      by (place.Image spot) there = there
      by (place.Zygote spot) there = there
      by place.Young there = there
      by place.Large there = inr there
      by place.Promoted there = inr there

  -- and each row has the slot of its address
  pub by-slot : (os : List Object) (row : LargeRow) → IsIn row (rows_by cs table os) → row.slot ≡ slot_in (table row.number)
  by-slot [] row none = absurd none
  by-slot (x ∷ os) row there = by x.place there (by-slot os row)
    where
      by : (at : Place) → IsIn row (with_row_by cs table x at (rows_by cs table os)) → (IsIn row (rows_by cs table os) → row.slot ≡ slot_in (table row.number)) → row.slot ≡ slot_in (table row.number)
      by (place.Image spot) there rest = rest there
      by (place.Zygote spot) there rest = rest there
      by place.Young there rest = rest there
      by place.Large (inl e) rest = subst (λ (r : LargeRow). r.slot ≡ slot_in (table r.number)) e refl
      by place.Large (inr later) rest = rest later
      by place.Promoted (inl e) rest = subst (λ (r : LargeRow). r.slot ≡ slot_in (table r.number)) e refl
      by place.Promoted (inr later) rest = rest later

  -- there are as many as there are large objects
  pub by-count : (k : ℕ) (os : List Object) → large_count k os ≡ k + length (rows_by cs table os)
  by-count k [] = omega arith
  by-count k (x ∷ os) = by x.place (λ n. by-count n os)
    where
      by : (at : Place) → ((n : ℕ) → large_count n os ≡ n + length (rows_by cs table os)) → large_count (large_behind k at) os ≡ k + length (with_row_by cs table x at (rows_by cs table os))
      by (place.Image spot) rest = rest k
      by (place.Zygote spot) rest = rest k
      by place.Young rest = rest k
      by place.Large rest = omega (arith, rest (k + 1))
      by place.Promoted rest = omega (arith, rest (k + 1))

  -- a test of the rows is one of their objects
  pub rows-kept : (stays : LargeRow → Bool) (keep : Object → Bool) (kept : List ℕ) (os : List Object)
      → ((o : Object) → IsIn o os → has_slot o.place ≡ true → stays (row_by cs table o (is_immune true o.place)) ≡ keep o)
      → filter stays (rows_by cs table os) ≡ rows_by cs table (map (cleared kept) (filter keep os))
  rows-kept stays keep kept [] each = refl
  rows-kept stays keep kept (x ∷ os) each =
      by x.place (keep x) (each x (inl refl)) (rows-kept stays keep kept os (λ o there. each o (inr there))) ∙ sym (spread (keep x))
    where
      spread : (b : Bool) → rows_by cs table (map (cleared kept) (cond b (x ∷ filter keep os) (filter keep os)))
          ≡ cond b (with_row_by cs table x x.place (rows_by cs table (map (cleared kept) (filter keep os)))) (rows_by cs table (map (cleared kept) (filter keep os)))
      spread true = same x.place
        where
          same : (at : Place) → with_row_by cs table (cleared kept x) at (rows_by cs table (map (cleared kept) (filter keep os))) ≡ with_row_by cs table x at (rows_by cs table (map (cleared kept) (filter keep os)))
          same (place.Image spot) = refl
          same (place.Zygote spot) = refl
          same place.Young = refl
          same place.Large = refl
          same place.Promoted = refl
      spread false = refl

      one : (row : LargeRow) (b : Bool) → stays row ≡ b → filter stays (rows_by cs table os) ≡ rows_by cs table (map (cleared kept) (filter keep os))
          → cond (stays row) (row ∷ filter stays (rows_by cs table os)) (filter stays (rows_by cs table os))
          ≡ cond b (row ∷ rows_by cs table (map (cleared kept) (filter keep os))) (rows_by cs table (map (cleared kept) (filter keep os)))
      one row b is rest = ap (λ c. cond c (row ∷ filter stays (rows_by cs table os)) (filter stays (rows_by cs table os))) is ∙ ap (λ rows. cond b (row ∷ rows) rows) rest

      both : (b : Bool) (rows others : List LargeRow) → rows ≡ others → rows ≡ cond b others others
      both true rows others same = same
      both false rows others same = same

      by : (at : Place) (b : Bool) → (has_slot at ≡ true → stays (row_by cs table x (is_immune true at)) ≡ b) → filter stays (rows_by cs table os) ≡ rows_by cs table (map (cleared kept) (filter keep os))
          → filter stays (with_row_by cs table x at (rows_by cs table os))
          ≡ cond b (with_row_by cs table x at (rows_by cs table (map (cleared kept) (filter keep os)))) (rows_by cs table (map (cleared kept) (filter keep os)))
      by (place.Image spot) b is rest = both b _ _ rest
      by (place.Zygote spot) b is rest = both b _ _ rest
      by place.Young b is rest = both b _ _ rest
      by place.Large b is rest = one (row_by cs table x false) b (is refl) rest
      by place.Promoted b is rest = one (row_by cs table x true) b (is refl) rest
