-- Rows of large objects that are marked, swept and counted.
use Rattle.std.proofs.Common.{◌≡◌, ◌∙◌, ◌||◌, ℕ, suc, ◌+◌, ◌<◌, ◌≤◌, Bool, true, false, cond, List, [], ◌∷◌, ◌++◌, Option, Some, None, All, filter, get_or, length, map, nat_eq, take, refl, sym, ap, subst, arith, is_some, option_map}
use Rattle.std.specs.Prelude.{not, IsTrue}
use Rattle.std.specs.List.{list_any, Contains}
use Rattle.std.proofs.lemmas.Bool.{eqb-true, true≢false}
use Rattle.std.proofs.lemmas.List.{length-append, map-append}
use Rattle.std.proofs.lemmas.List.Elements.{All-head, All-tail}
use Rattle.std.proofs.lemmas.List.Folds.{list_any-append}
use Rattle.std.proofs.lemmas.Map.Steps.{length-le_from_distinct_below}
use Rattle.std.proofs.lemmas.Map.Views.{Contains-from_any}
use Rattle.page_tables.specs.declared.address.Addr.{Addr}
use Rattle.large_objects.specs.declared.rows.LargeRow.{LargeRow}
use Rattle.large_objects.specs.Pages.{holds_page}
use Rattle.large_objects.specs.Rows.{cleared, dead, goes, marked_at, row_at, slot_base, stays, swept, waits, AreRows}
use Rattle.large_objects.proofs.LawLemmas.{row-map, row-of}
use Rattle.large_objects.proofs.RowLemmas.{KeepsSlots}
use Rattle.live_objects.specs.Live.{addresses}
use Rattle.live_objects.proofs.StartLemmas.{take-next}
use Rattle.live_objects.proofs.YoungLemmas.{map-from}
use Rattle.object_collection.specs.Phases.{goes_by, marked_by, stays_by}
use Rattle.object_collection.proofs.Facts.{all-at, any-at, any-of, filter-from, filter-in}

-- MARKS

pub keeps-marked_by : (ats : List Addr) → KeepsSlots (marked_by ats)
keeps-marked_by ats = record { number = λ row. refl; slot = λ row. refl; bytes = λ row. refl }

or-false : (b : Bool) → (b || false) ≡ b
or-false true = refl
or-false false = refl

pub marked-none : (rows : List LargeRow) → rows ≡ map (marked_by []) rows
marked-none [] = refl
marked-none (row ∷ rest) =
    ap (λ (b : Bool). record row { marked = b } ∷ rest) (sym (or-false row.marked))
    ∙ ap (λ (rs : List LargeRow). marked_by [] row ∷ rs) (marked-none rest)

mark-step : (row : LargeRow) (m a b : Bool) → cond b (record row { marked = true }) (record row { marked = m || a }) ≡ record row { marked = m || (a || (b || false)) }
mark-step row true a true = refl
mark-step row true a false = refl
mark-step row false true true = refl
mark-step row false true false = refl
mark-step row false false true = refl
mark-step row false false false = refl

pub marked-more : (ats : List Addr) (at : Addr) (rows : List LargeRow) → map (marked_at at.0) (map (marked_by ats) rows) ≡ map (marked_by (ats ++ at ∷ [])) rows
marked-more ats at [] = refl
marked-more ats at (row ∷ rest) =
    let s : ℕ = slot_base row.slot in
    let any : list_any (nat_eq s) (addresses (ats ++ at ∷ [])) ≡ (list_any (nat_eq s) (addresses ats) || (nat_eq s at.0 || false))
    = ap (list_any (nat_eq s)) (map-append (λ (a : Addr). a.0) ats (at ∷ [])) ∙ list_any-append (nat_eq s) (addresses ats) (at.0 ∷ []) in
    ap (λ (r : LargeRow). r ∷ map (marked_at at.0) (map (marked_by ats) rest)) (mark-step row row.marked (list_any (nat_eq s) (addresses ats)) (nat_eq s at.0) ∙ ap (λ (b : Bool). record row { marked = row.marked || b }) (sym any))
    ∙ ap (λ (rs : List LargeRow). marked_by (ats ++ at ∷ []) row ∷ rs) (marked-more ats at rest)

some-map : {X : Type 0} (f : X → X) (o : Option X) → IsTrue (is_some o) → IsTrue (is_some (option_map f o))
some-map f None is = absurd (true≢false (sym is))
some-map f (Some x) is = refl

pub marked-found : (ats : List Addr) (rows : List LargeRow) (a : ℕ) → IsTrue (is_some (row_at rows a)) → IsTrue (is_some (row_at (map (marked_by ats) rows) a))
marked-found ats rows a is = subst (λ (o : Option LargeRow). IsTrue (is_some o)) (sym (row-map (marked_by ats) (keeps-marked_by ats) rows a)) (some-map (marked_by ats) (row_at rows a) is)

-- THE SWEEP

pub swept-marked : (ats : List Addr) (rows : List LargeRow) → All (λ (row : LargeRow). row.marked ≡ false) rows → swept (map (marked_by ats) rows) ≡ filter (stays_by ats) rows
swept-marked ats [] all = refl
swept-marked ats (row ∷ rest) all =
    let e : row.marked ≡ false = All-head (λ (r : LargeRow). r.marked ≡ false) row rest all in
    let any : Bool = list_any (nat_eq (slot_base row.slot)) (addresses ats) in
    ap (λ (b : Bool). map cleared (cond (row.promoted || (b || any)) (marked_by ats row ∷ filter stays (map (marked_by ats) rest)) (filter stays (map (marked_by ats) rest)))) e
    ∙ by (row.promoted || any) e (swept-marked ats rest (All-tail (λ (r : LargeRow). r.marked ≡ false) row rest all))
  where
    by : (b : Bool) → row.marked ≡ false → swept (map (marked_by ats) rest) ≡ filter (stays_by ats) rest
        → map cleared (cond b (marked_by ats row ∷ filter stays (map (marked_by ats) rest)) (filter stays (map (marked_by ats) rest))) ≡ cond b (row ∷ filter (stays_by ats) rest) (filter (stays_by ats) rest)
    by true e same = ap (λ (b : Bool). record row { marked = b } ∷ swept (map (marked_by ats) rest)) (sym e) ∙ ap (λ (rs : List LargeRow). row ∷ rs) same
    by false e same = same

pub dead-marked : (ats : List Addr) (p : ℕ) (rows : List LargeRow) → All (λ (row : LargeRow). row.marked ≡ false) rows
    → list_any (holds_page p) (dead (map (marked_by ats) rows)) ≡ list_any (holds_page p) (filter (goes_by ats) rows)
dead-marked ats p [] all = refl
dead-marked ats p (row ∷ rest) all =
    let e : row.marked ≡ false = All-head (λ (r : LargeRow). r.marked ≡ false) row rest all in
    let any : Bool = list_any (nat_eq (slot_base row.slot)) (addresses ats) in
    ap (λ (b : Bool). list_any (holds_page p) (cond (not (row.promoted || (b || any))) (marked_by ats row ∷ filter goes (map (marked_by ats) rest)) (filter goes (map (marked_by ats) rest)))) e
    ∙ by (not (row.promoted || any)) (dead-marked ats p rest (All-tail (λ (r : LargeRow). r.marked ≡ false) row rest all))
  where
    by : (b : Bool) → list_any (holds_page p) (dead (map (marked_by ats) rest)) ≡ list_any (holds_page p) (filter (goes_by ats) rest)
        → list_any (holds_page p) (cond b (marked_by ats row ∷ filter goes (map (marked_by ats) rest)) (filter goes (map (marked_by ats) rest))) ≡ list_any (holds_page p) (cond b (row ∷ filter (goes_by ats) rest) (filter (goes_by ats) rest))
    by true same = ap (λ (b : Bool). holds_page p row || b) same
    by false same = same

-- what goes wasn't promoted
goes-waits : (a b : Bool) → not (a || b) ≡ true → not a ≡ true
goes-waits true b is = absurd (true≢false (sym is))
goes-waits false b is = refl

pub gone-waits : (ats : List Addr) (p : ℕ) (rows : List LargeRow) → list_any (holds_page p) (filter (goes_by ats) rows) ≡ true → list_any (holds_page p) (filter waits rows) ≡ true
gone-waits ats p rows is =
    let it = any-at (holds_page p) (filter (goes_by ats) rows) is in
    let row = filter-from (goes_by ats) rows it.0 it.1 in
    any-of (holds_page p) (filter waits rows) it.0 (filter-in waits rows it.0 row.0 (goes-waits it.0.promoted _ row.1)) it.2

-- COUNTS

filter-append : {X : Type 0} (p : X → Bool) (xs ys : List X) → filter p (xs ++ ys) ≡ filter p xs ++ filter p ys
filter-append p [] ys = refl
filter-append {X} p (x ∷ xs) ys = by (p x) (filter-append p xs ys)
  where
    by : (b : Bool) → filter p (xs ++ ys) ≡ filter p xs ++ filter p ys → cond b (x ∷ filter p (xs ++ ys)) (filter p (xs ++ ys)) ≡ cond b (x ∷ filter p xs) (filter p xs) ++ filter p ys
    by true e = ap (λ (zs : List X). x ∷ zs) e
    by false e = e

one-more : {X : Type 0} (b : Bool) (x : X) → length (cond b (x ∷ []) []) ≡ cond {A = ℕ} b 1 0
one-more true x = refl
one-more false x = refl

pub filter-next : {X : Type 0} (p : X → Bool) (xs : List X) (k : ℕ) (d : X) → k < length xs → length (filter p (take (k + 1) xs)) ≡ length (filter p (take k xs)) + cond {A = ℕ} (p (get_or xs k d)) 1 0
filter-next {X} p xs k d below =
    ap (λ (ys : List X). length (filter p ys)) (take-next xs k d below)
    ∙ ap length (filter-append p (take k xs) (get_or xs k d ∷ []))
    ∙ length-append (filter p (take k xs)) (filter p (get_or xs k d ∷ []))
    ∙ ap (λ (n : ℕ). length (filter p (take k xs)) + n) (one-more (p (get_or xs k d)) (get_or xs k d))

-- there are no more rows than slots
pub rows-few : (rows : List LargeRow) → AreRows rows → length rows ≤ 512
rows-few rows are =
    let slots : List ℕ = map (λ (row : LargeRow). row.slot) rows in
    omega (
      arith,
      length-map' rows,
      length-le_from_distinct_below slots 512 are.apart (λ q any.
          let it = map-from (λ (row : LargeRow). row.slot) rows q (Contains-from_any eqb-true q slots any) in
          subst (λ (n : ℕ). n < 512) it.2 (all-at (λ (row : LargeRow). row.slot < 512) rows it.0 are.within it.1)),
    )
  where
    length-map' : (rs : List LargeRow) → length (map (λ (row : LargeRow). row.slot) rs) ≡ length rs
    length-map' [] = refl
    length-map' (r ∷ rs) = ap (λ (n : ℕ). suc n) (length-map' rs)

-- a filter keeps no more than there are, and of fewer rows no more
pub filter-few : {X : Type 0} (p : X → Bool) (xs : List X) → length (filter p xs) ≤ length xs
filter-few p [] = omega arith
filter-few {X} p (x ∷ xs) = by (p x) (filter-few p xs)
  where
    by : (b : Bool) → length (filter p xs) ≤ length xs → length (cond b (x ∷ filter p xs) (filter p xs)) ≤ suc (length xs)
    by true le = omega arith
    by false le = omega arith

pub filter-fewer : {X : Type 0} (p q : X → Bool) (xs : List X) → length (filter p (filter q xs)) ≤ length (filter p xs)
filter-fewer p q [] = omega arith
filter-fewer {X} p q (x ∷ xs) = by (q x) (filter-fewer p q xs)
  where
    more : (b : Bool) → length (filter p (filter q xs)) ≤ length (filter p xs) → length (filter p (filter q xs)) ≤ length (cond b (x ∷ filter p xs) (filter p xs))
    more true le = omega arith
    more false le = le

    both : (b : Bool) → length (filter p (filter q xs)) ≤ length (filter p xs) → length (cond b (x ∷ filter p (filter q xs)) (filter p (filter q xs))) ≤ length (cond b (x ∷ filter p xs) (filter p xs))
    both true le = omega arith
    both false le = le

    by : (b : Bool) → length (filter p (filter q xs)) ≤ length (filter p xs) → length (filter p (cond b (x ∷ filter q xs) (filter q xs))) ≤ length (filter p (x ∷ xs))
    by true le = both (p x) le
    by false le = more (p x) le

-- SLOTS

-- a row is found by its slot
pub row-found-at : (rows : List LargeRow) (row : LargeRow) → AreRows rows → Contains rows row → row_at rows (slot_base row.slot) ≡ Some row
row-found-at rows row are c = row-of rows c.0 row are.apart c.1 c.2

-- and no other has it
pub same-row : (rows : List LargeRow) (a b : LargeRow) → AreRows rows → Contains rows a → Contains rows b → a.slot ≡ b.slot → a ≡ b
same-row rows a b are ca cb same =
    let e : Some a ≡ Some b = sym (row-found-at rows a are ca) ∙ ap (λ (n : ℕ). row_at rows (slot_base n)) same ∙ row-found-at rows b are cb in
    cc
