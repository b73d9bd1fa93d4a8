-- Slots taken and freed, and rows found by their slots.
use Rattle.std.proofs.Common.{◌≡◌, ◌≢◌, ◌⊎◌, ◌∙◌, ℕ, zero, suc, ◌+◌, ◌*◌, ◌/◌, ◌-◌, ◌<◌, ◌≤◌, Bool, true, false, ◌||◌, cond, eqb, List, [], ◌∷◌, ◌++◌, map, length, get_or, set, take, drop, Some, refl, sym, ap, subst, inl, inr, arith, true≢false, append_assoc, append-nil, replicate}
use Rattle.std.specs.Prelude.{All, IsTrue, is_some, nat_eq, slice_get, sum}
use Rattle.std.specs.List.{AllByRecursion, filter, list_any, IsDistinct}
use Rattle.std.proofs.Math.Seq.{get_or-append_seam}
use Rattle.std.proofs.lemmas.Bool.{cases_eq, cases_lt, or_from, ne_eqb, eq-eqb, cond-true, cond-false, eqb-false, or_right}
use Rattle.std.proofs.lemmas.List.{drop_more, get_or_append_left, get_or-replicate, length-replicate, get_or-set_same, get_or-set_other, get_or_past, length-append, length-map, length-set, map-append}
use Rattle.std.proofs.lemmas.List.Elements.{All-filter, filter_more}
use Rattle.std.proofs.lemmas.List.Folds.{list_any-append}
use Rattle.std.proofs.lemmas.List.Sums.{sum_by-append, sum_by-cons, sum_by-le, sum-map}
use Rattle.std.proofs.lemmas.Option.{slice_get-get_or}
use Rattle.std.proofs.lemmas.Map.Keys.{IsDistinct-head, IsDistinct-tail, apart_from_distinct}
use Rattle.sharers.specs.Shares.{Shares, count_of}
use Rattle.large_objects.specs.declared.rows.LargeRow.{LargeRow}
use Rattle.large_objects.specs.Rows.{AreRows, IsBytes, stays, cost_of, costs_of, has_slot, marked_at, row_at, slot_base}
use Rattle.large_objects.specs.Table.{AreFound, TakesSlots, slot_of}
use Rattle.large_objects.proofs.RowLemmas.{KeepsSlots, slots, slots-map, front-apart, back-apart, slot-apart, apart-slot, slot-at}

-- COSTS

pub costs-cons : (row : LargeRow) (rest : List LargeRow) → costs_of (row ∷ rest) ≡ cost_of row + costs_of rest
costs-cons row rest = sum_by-cons (λ (n : ℕ). n) (cost_of row) (map cost_of rest)

pub costs-append : (xs ys : List LargeRow) → costs_of (xs ++ ys) ≡ costs_of xs + costs_of ys
costs-append xs ys = ap sum (map-append cost_of xs ys) ∙ sum_by-append (λ (n : ℕ). n) (map cost_of xs) (map cost_of ys)

pub costs-le : (rows : List LargeRow) → All (λ (row : LargeRow). IsBytes row.bytes) rows → costs_of rows ≤ length rows * 4
costs-le rows bytes = subst (λ n. n ≤ length rows * 4) (sym (sum-map cost_of rows)) (sum_by-le cost_of 4 rows (λ k d h. let b = bytes k d h in omega (arith, b.most)))

pub costs-map : (f : LargeRow → LargeRow) → KeepsSlots f → (rows : List LargeRow) → costs_of (map f rows) ≡ costs_of rows
costs-map f keeps [] = refl
costs-map f keeps (row ∷ rest) =
    let here : cost_of (f row) ≡ cost_of row = ap (λ n. (n + (262144 - 1)) / 262144) (keeps.bytes row) in
    omega (arith, costs-cons (f row) (map f rest), costs-cons row rest, here, costs-map f keeps rest)

-- SLOTS TAKEN

pub any-map : (f : LargeRow → LargeRow) → KeepsSlots f → (slot : ℕ) (rows : List LargeRow) → list_any (has_slot slot) (map f rows) ≡ list_any (has_slot slot) rows
any-map f keeps slot [] = refl
any-map f keeps slot (row ∷ rest) = ap (λ s. eqb s slot || list_any (has_slot slot) (map f rest)) (keeps.slot row) ∙ ap (λ b. eqb row.slot slot || b) (any-map f keeps slot rest)

-- a slot that nobody has is no row's
pub none-has : (s : Shares) (total : ℕ) (rows : List LargeRow) (slot : ℕ) → TakesSlots s total rows → count_of s slot ≡ 0 → list_any (has_slot slot) rows ≡ false
none-has s total rows slot t none = by (list_any (has_slot slot) rows) (t.taken slot)
  where
    by : (b : Bool) → count_of s slot ≡ cond b 1 0 → b ≡ false
    by true is = absurd (omega (arith, none, is))
    by false is = refl

pub takes-map : (f : LargeRow → LargeRow) → KeepsSlots f → (s : Shares) (total : ℕ) (rows : List LargeRow) → TakesSlots s total rows → TakesSlots s total (map f rows)
takes-map f keeps s total rows t = record {
  len = t.len;
  spare = omega (arith, t.spare, length-map rows f);
  taken = λ slot. t.taken slot ∙ ap (λ b. cond b 1 0) (sym (any-map f keeps slot rows));
  cost = t.cost ∙ sym (costs-map f keeps rows);
}

pub takes-push : (old new : Shares) (total : ℕ) (rows : List LargeRow) (row : LargeRow) → TakesSlots old total rows → row.slot < length old.counts
    → new.counts ≡ set old.counts row.slot 1 → new.spare + 1 ≡ old.spare → TakesSlots new (total + cost_of row) (rows ++ row ∷ [])
takes-push old new total rows row t within counts spare = record {
  len = ap length counts ∙ length-set old.counts row.slot 1 ∙ t.len;
  spare = omega (arith, spare, t.spare, length-append rows (row ∷ []));
  taken = λ slot. taken slot (cases_eq slot row.slot);
  cost = omega (arith, t.cost, costs-append rows (row ∷ []), costs-cons row []);
}
  where
    now : (slot : ℕ) (b : Bool) → has_slot slot row ≡ b → list_any (has_slot slot) (rows ++ row ∷ []) ≡ (list_any (has_slot slot) rows || (b || false))
    now slot b is = list_any-append (has_slot slot) rows (row ∷ []) ∙ ap (λ c. list_any (has_slot slot) rows || (c || false)) is

    or-none : (b : Bool) → (b || false) ≡ b
    or-none true = refl
    or-none false = refl

    taken : (slot : ℕ) → (slot ≡ row.slot) ⊎ (slot ≢ row.slot) → count_of new slot ≡ cond (list_any (has_slot slot) (rows ++ row ∷ [])) 1 0
    taken slot (inl same) =
        (ap (λ cs. get_or cs slot 0) counts ∙ ap (λ k. get_or (set old.counts row.slot 1) k 0) same ∙ get_or-set_same old.counts row.slot 1 0 within)
        ∙ sym (ap (λ b. cond b 1 0) (now slot true (eq-eqb row.slot slot (sym same)) ∙ or_right (list_any (has_slot slot) rows) true refl))
    taken slot (inr other) =
        (ap (λ cs. get_or cs slot 0) counts ∙ get_or-set_other old.counts row.slot slot 1 0 other) ∙ t.taken slot
        ∙ sym (ap (λ b. cond b 1 0) (now slot false (ne_eqb row.slot slot (λ same. other (sym same))) ∙ or-none (list_any (has_slot slot) rows)))

-- the slot of a row is taken once
pub taken-once : (s : Shares) (total : ℕ) (xs ys : List LargeRow) (row : LargeRow) → TakesSlots s total (xs ++ row ∷ ys) → count_of s row.slot ≡ 1
taken-once s total xs ys row t =
    t.taken row.slot
    ∙ ap (λ b. cond b 1 0) (list_any-append (has_slot row.slot) xs (row ∷ ys) ∙ or_right (list_any (has_slot row.slot) xs) _ (ap (λ b. b || list_any (has_slot row.slot) ys) (eq-eqb row.slot row.slot refl)))

pub takes-less : (old new : Shares) (total : ℕ) (xs ys : List LargeRow) (row : LargeRow) → TakesSlots old total (xs ++ row ∷ ys) → list_any (has_slot row.slot) (xs ++ ys) ≡ false → row.slot < length old.counts
    → new.counts ≡ set old.counts row.slot 0 → new.spare ≡ old.spare + 1 → TakesSlots new (total - cost_of row) (xs ++ ys)
takes-less old new total xs ys row t apart within counts spare = record {
  len = ap length counts ∙ length-set old.counts row.slot 0 ∙ t.len;
  spare = omega (arith, spare, t.spare, length-append xs (row ∷ ys), length-append xs ys);
  taken = λ slot. taken slot (cases_eq slot row.slot);
  cost = omega (arith, t.cost, costs-append xs (row ∷ ys), costs-append xs ys, costs-cons row ys);
}
  where
    without : (slot : ℕ) → has_slot slot row ≡ false → list_any (has_slot slot) (xs ++ row ∷ ys) ≡ list_any (has_slot slot) (xs ++ ys)
    without slot is = list_any-append (has_slot slot) xs (row ∷ ys) ∙ ap (λ b. list_any (has_slot slot) xs || (b || list_any (has_slot slot) ys)) is ∙ sym (list_any-append (has_slot slot) xs ys)

    taken : (slot : ℕ) → (slot ≡ row.slot) ⊎ (slot ≢ row.slot) → count_of new slot ≡ cond (list_any (has_slot slot) (xs ++ ys)) 1 0
    taken slot (inl same) =
        (ap (λ cs. get_or cs slot 0) counts ∙ ap (λ k. get_or (set old.counts row.slot 0) k 0) same ∙ get_or-set_same old.counts row.slot 0 0 within)
        ∙ sym (ap (λ b. cond b 1 0) (ap (λ k. list_any (has_slot k) (xs ++ ys)) same ∙ apart))
    taken slot (inr other) =
        (ap (λ cs. get_or cs slot 0) counts ∙ get_or-set_other old.counts row.slot slot 0 0 other) ∙ t.taken slot
        ∙ ap (λ b. cond b 1 0) (without slot (ne_eqb row.slot slot (λ same. other (sym same))))

pub takes-none : (s : Shares) (made : List ℕ) (n : ℕ) → s.counts ≡ made ++ replicate n 0 → made ≡ [] → s.spare ≡ n → n ≡ 512 → TakesSlots s 0 []
takes-none s made n is empty spare all = record {
  len = ap length counts ∙ length-replicate {A = ℕ} n 0 ∙ all;
  spare = omega (arith, spare, all);
  taken = λ slot. ap (λ cs. get_or cs slot 0) counts ∙ none slot (cases_lt slot n);
  cost = refl;
}
  where
    counts : s.counts ≡ replicate n 0
    counts = is ∙ ap (λ xs. xs ++ replicate n 0) empty

    none : (slot : ℕ) → (slot < n) ⊎ (n ≤ slot) → ◌≡◌ {A = ℕ} (get_or (replicate n 0) slot 0) 0
    none slot (inl below) = get_or-replicate n slot 0 0 below
    none slot (inr past) = get_or_past (replicate n 0) slot 0 (omega (arith, past, length-replicate {A = ℕ} n 0))

-- a sweep comes to the next row, which stays
pub next-stays : (rows : List LargeRow) (i : ℕ) (row : LargeRow) → i < length rows → row ≡ get_or rows i row → stays row ≡ true
    → filter stays (take i rows) ++ drop i rows ≡ filter stays (take (i + 1) rows) ++ drop (i + 1) rows
next-stays rows i row within is keep =
    ap (λ xs. filter stays (take i rows) ++ xs) (drop_more rows i row within)
    ∙ ap (λ (it : LargeRow). filter stays (take i rows) ++ it ∷ drop (i + 1) rows) (sym is)
    ∙ sym (append_assoc (filter stays (take i rows)) (row ∷ []) (drop (i + 1) rows))
    ∙ ap (λ xs. xs ++ drop (i + 1) rows) (sym (filter_more stays rows i row within
    ∙ ap (λ (it : LargeRow). filter stays (take i rows) ++ cond (stays it) (it ∷ []) []) (sym is)
    ∙ ap (λ b. filter stays (take i rows) ++ cond b (row ∷ []) []) keep))

-- or which goes
pub next-goes : (rows : List LargeRow) (i : ℕ) (row : LargeRow) → i < length rows → row ≡ get_or rows i row → stays row ≡ false → filter stays (take (i + 1) rows) ≡ filter stays (take i rows)
next-goes rows i row within is keep =
    filter_more stays rows i row within
    ∙ ap (λ (it : LargeRow). filter stays (take i rows) ++ cond (stays it) (it ∷ []) []) (sym is)
    ∙ ap (λ b. filter stays (take i rows) ++ cond b (row ∷ []) []) keep
    ∙ append-nil (filter stays (take i rows))

pub next-split : (rows : List LargeRow) (i : ℕ) (row : LargeRow) → i < length rows → row ≡ get_or rows i row
    → filter stays (take i rows) ++ drop i rows ≡ filter stays (take i rows) ++ row ∷ drop (i + 1) rows
next-split rows i row within is =
    ap (λ xs. filter stays (take i rows) ++ xs) (drop_more rows i row within)
    ∙ ap (λ (it : LargeRow). filter stays (take i rows) ++ it ∷ drop (i + 1) rows) (sym is)

pub next-apart : (rows : List LargeRow) (i : ℕ) (row : LargeRow) → IsDistinct nat_eq (slots rows) → i < length rows → row ≡ get_or rows i row
    → list_any (has_slot row.slot) (filter stays (take i rows) ++ drop (i + 1) rows) ≡ false
next-apart rows i row d within is =
    let same : slot_of rows i ≡ row.slot = slot-at rows i row within ∙ sym (ap (λ (it : LargeRow). it.slot) is) in
    let front = All-filter stays (λ (it : LargeRow). it.slot ≢ slot_of rows i) (take i rows) (front-apart rows i d within) in
    subst (λ s. list_any (has_slot s) (filter stays (take i rows) ++ drop (i + 1) rows) ≡ false) same
    (list_any-append (has_slot (slot_of rows i)) (filter stays (take i rows)) (drop (i + 1) rows)
    ∙ or_from _ _ (apart-slot (slot_of rows i) (filter stays (take i rows)) front) (apart-slot (slot_of rows i) (drop (i + 1) rows) (back-apart rows i d within)))

pub free-next : (old new : Shares) (total : ℕ) (rows : List LargeRow) (i : ℕ) (row : LargeRow) → AreRows rows → i < length rows → row ≡ get_or rows i row → stays row ≡ false
    → TakesSlots old total (filter stays (take i rows) ++ drop i rows) → new.counts ≡ set old.counts row.slot (count_of old row.slot - 1) → (count_of old row.slot ≡ 1 → new.spare ≡ old.spare + 1)
    → TakesSlots new (total - cost_of row) (filter stays (take (i + 1) rows) ++ drop (i + 1) rows)
free-next old new total rows i row a within is keep t counts freed =
    let xs = filter stays (take i rows) in
    let ys = drop (i + 1) rows in
    let split : TakesSlots old total (xs ++ row ∷ ys) = subst (TakesSlots old total) (next-split rows i row within is) t in
    let once = taken-once old total xs ys row split in
    let slot : (get_or rows i row).slot < 512 = a.within i row within in
    subst (λ zs. TakesSlots new (total - cost_of row) (zs ++ ys)) (sym (next-goes rows i row within is keep))
    (takes-less old new total xs ys row split (next-apart rows i row a.apart within is) (omega (arith, slot, ap (λ (it : LargeRow). it.slot) is, split.len))
    (counts ∙ ap (λ k. set old.counts row.slot (k - 1)) once) (freed once))

-- ROWS FOUND

pub found-map : (f : LargeRow → LargeRow) → KeepsSlots f → (row_of : List ℕ) (rows : List LargeRow) → AreFound row_of rows → AreFound row_of (map f rows)
found-map f keeps row_of rows found i within =
    ap (λ xs. get_or row_of (get_or xs i 0) 0) (slots-map f keeps rows) ∙ found i (omega (arith, within, length-map rows f))

pub found-push : (row_of : List ℕ) (rows : List LargeRow) (row : LargeRow) (n : ℕ) → AreFound row_of rows → list_any (has_slot row.slot) rows ≡ false → row.slot < length row_of → n ≡ length rows
    → AreFound (set row_of row.slot n) (rows ++ row ∷ [])
found-push row_of rows row n found fresh within end i below = by (cases_lt i (length rows))
  where
    joined : slots (rows ++ row ∷ []) ≡ slots rows ++ row.slot ∷ []
    joined = map-append (λ (it : LargeRow). it.slot) rows (row ∷ [])

    many : length (slots rows) ≡ length rows
    many = length-map rows (λ (it : LargeRow). it.slot)

    by : (i < length rows) ⊎ (length rows ≤ i) → get_or (set row_of row.slot n) (slot_of (rows ++ row ∷ []) i) 0 ≡ i
    by (inl before) =
        let slot : slot_of (rows ++ row ∷ []) i ≡ slot_of rows i = ap (λ xs. get_or xs i 0) joined ∙ get_or_append_left (slots rows) (row.slot ∷ []) 0 i (omega (arith, before, many)) in
        let other : slot_of rows i ≢ row.slot = λ same. slot-apart row.slot rows fresh i row before (sym (slot-at rows i row before) ∙ same) in
        ap (λ s. get_or (set row_of row.slot n) s 0) slot ∙ get_or-set_other row_of row.slot (slot_of rows i) n 0 other ∙ found i before
    by (inr past) =
        let last : i ≡ length rows = omega (arith, past, below, length-append rows (row ∷ [])) in
        let slot : slot_of (rows ++ row ∷ []) i ≡ row.slot =
        ap (λ xs. get_or xs i 0) joined ∙ ap (λ k. get_or (slots rows ++ row.slot ∷ []) k 0) (last ∙ sym many) ∙ get_or-append_seam (slots rows) row.slot [] 0 in
        ap (λ s. get_or (set row_of row.slot n) s 0) slot ∙ get_or-set_same row_of row.slot n 0 within ∙ end ∙ sym last

-- one row more is found
pub found-next : (row_of : List ℕ) (rows : List LargeRow) (i : ℕ) (slot : ℕ) → IsDistinct nat_eq (slots rows) → i < length rows → slot ≡ slot_of rows i → slot < length row_of
    → ((k : ℕ) → k < i → get_or row_of (slot_of rows k) 0 ≡ k) → (k : ℕ) → k < i + 1 → get_or (set row_of slot i) (slot_of rows k) 0 ≡ k
found-next row_of rows i slot d within is there found k below = by (cases_lt k i)
  where
    by : (k < i) ⊎ (i ≤ k) → get_or (set row_of slot i) (slot_of rows k) 0 ≡ k
    by (inl before) =
        let apart = apart_from_distinct nat_eq (slots rows) k i 0 d before (omega (arith, within, length-map rows (λ (it : LargeRow). it.slot))) in
        get_or-set_other row_of slot (slot_of rows k) i 0 (λ same. eqb-false (slot_of rows k) (slot_of rows i) apart (same ∙ is)) ∙ found k before
    by (inr from) =
        let same : k ≡ i = omega (arith, from, below) in
        ap (λ j. get_or (set row_of slot i) (slot_of rows j) 0) same ∙ ap (λ s. get_or (set row_of slot i) s 0) (sym is) ∙ get_or-set_same row_of slot i 0 there ∙ sym same

-- where the row of an address stands
pub row-found : (rows : List LargeRow) (at : ℕ) → IsTrue (is_some (row_at rows at)) → (i : ℕ) × (i < length rows) × (slot_base (slot_of rows i) ≡ at) × (slice_get rows i ≡ row_at rows at)
row-found [] at there = absurd (true≢false (sym there))
row-found (row ∷ rest) at there = elim (cases_eq (slot_base row.slot) at) [
  | inl same ↦ (0, omega arith, same, sym (cond-true (eqb (slot_base row.slot) at) (Some row) (row_at rest at) (eq-eqb (slot_base row.slot) at same)))
  | inr other ↦
      let later : row_at (row ∷ rest) at ≡ row_at rest at = cond-false (eqb (slot_base row.slot) at) (Some row) (row_at rest at) (ne_eqb (slot_base row.slot) at other) in
      let tail = row-found rest at (sym (ap is_some later) ∙ there) in
      (suc tail.0, omega (arith, tail.1), tail.2, tail.3 ∙ sym later)
]

-- MARKED

pub marked-other : (at : ℕ) (row : LargeRow) → slot_base row.slot ≢ at → marked_at at row ≡ row
marked-other at row other = cond-false _ (record row { marked = true }) row (ne_eqb (slot_base row.slot) at other)

pub marked-none : (slot : ℕ) (rows : List LargeRow) → AllByRecursion (λ y. nat_eq slot y ≡ false) (slots rows) → map (marked_at (slot_base slot)) rows ≡ rows
marked-none slot [] all = refl
marked-none slot (row ∷ rest) all =
    ap (λ (it : LargeRow). it ∷ map (marked_at (slot_base slot)) rest) (marked-other (slot_base slot) row (λ same. eqb-false slot row.slot all.0 (omega (arith, same))))
    ∙ ap (λ xs. row ∷ xs) (marked-none slot rest all.1)

-- the row of a slot, marked
pub marked-there : (rows : List LargeRow) (i : ℕ) (row : LargeRow) → IsDistinct nat_eq (slots rows) → slice_get rows i ≡ Some row → set rows i (record row { marked = true }) ≡ map (marked_at (slot_base row.slot)) rows
marked-there [] i row d is = absurd (true≢false (sym (ap is_some is)))
marked-there (x ∷ rest) zero row d is =
    let same : x ≡ row = cc in
    ap (λ (it : LargeRow). it ∷ rest) (sym (cond-true _ (record row { marked = true }) row (eq-eqb (slot_base row.slot) (slot_base row.slot) refl)))
    ∙ ap (λ xs. marked_at (slot_base row.slot) row ∷ xs) (sym (marked-none row.slot rest (subst (λ (it : LargeRow). AllByRecursion (λ y. nat_eq it.slot y ≡ false) (slots rest)) same (IsDistinct-head nat_eq x.slot (slots rest) d))))
    ∙ ap (λ (it : LargeRow). marked_at (slot_base row.slot) it ∷ map (marked_at (slot_base row.slot)) rest) (sym same)
marked-there (x ∷ rest) (suc i) row d is =
    let other : x.slot ≢ row.slot = λ same. head-apart rest i (IsDistinct-head nat_eq x.slot (slots rest) d) is same in
    ap (λ xs. x ∷ xs) (marked-there rest i row (IsDistinct-tail nat_eq x.slot (slots rest) d) is)
    ∙ ap (λ (it : LargeRow). it ∷ map (marked_at (slot_base row.slot)) rest) (sym (marked-other (slot_base row.slot) x (λ same. other (omega (arith, same)))))
  where
    head-apart : (rows : List LargeRow) (k : ℕ) → AllByRecursion (λ y. nat_eq x.slot y ≡ false) (slots rows) → slice_get rows k ≡ Some row → x.slot ≡ row.slot → ⊥
    head-apart [] k all at same = true≢false (sym (ap is_some at))
    head-apart (y ∷ ys) zero all at same = let it : y ≡ row = cc in eqb-false x.slot y.slot all.0 (same ∙ sym (ap (λ (r : LargeRow). r.slot) it))
    head-apart (y ∷ ys) (suc k) all at same = head-apart ys k all.1 at same

pub keeps-marked : (at : ℕ) → KeepsSlots (marked_at at)
keeps-marked at = record { number = λ row. number row (eqb (slot_base row.slot) at); slot = λ row. slot row (eqb (slot_base row.slot) at); bytes = λ row. bytes row (eqb (slot_base row.slot) at) }
  where
    number : (row : LargeRow) (b : Bool) → (cond b (record row { marked = true }) row).number ≡ row.number
    number row true = refl
    number row false = refl

    slot : (row : LargeRow) (b : Bool) → (cond b (record row { marked = true }) row).slot ≡ row.slot
    slot row true = refl
    slot row false = refl

    bytes : (row : LargeRow) (b : Bool) → (cond b (record row { marked = true }) row).bytes ≡ row.bytes
    bytes row true = refl
    bytes row false = refl

-- the row of an address begins there
pub row-spot : (rows : List LargeRow) (at : ℕ) (row : LargeRow) → row_at rows at ≡ Some row → slot_base row.slot ≡ at
row-spot [] at row is = absurd (true≢false (sym (ap is_some is)))
row-spot (x ∷ rest) at row is = elim (cases_eq (slot_base x.slot) at) [
  | inl same ↦
      let it : Some x ≡ Some row = sym (cond-true (eqb (slot_base x.slot) at) (Some x) (row_at rest at) (eq-eqb (slot_base x.slot) at same)) ∙ is in
      let one : x ≡ row = cc in
      ap (λ (r : LargeRow). slot_base r.slot) (sym one) ∙ same
  | inr other ↦ row-spot rest at row (sym (cond-false (eqb (slot_base x.slot) at) (Some x) (row_at rest at) (ne_eqb (slot_base x.slot) at other)) ∙ is)
]

pub row-there : (rows : List LargeRow) (i at : ℕ) (row : LargeRow) → i < length rows → slice_get rows i ≡ row_at rows at → row ≡ get_or rows i row → row_at rows at ≡ Some row
row-there rows i at row within got is = sym got ∙ slice_get-get_or rows i row within ∙ ap (λ (it : LargeRow). Some it) (sym is)

pub marked-rows : (rows : List LargeRow) (i at : ℕ) (row : LargeRow) → IsDistinct nat_eq (slots rows) → i < length rows → slice_get rows i ≡ row_at rows at → row ≡ get_or rows i row
    → set rows i (record row { marked = true }) ≡ map (marked_at at) rows
marked-rows rows i at row d within got is =
    let there = row-there rows i at row within got is in
    marked-there rows i row d (got ∙ there) ∙ ap (λ k. map (marked_at k) rows) (row-spot rows at row there)
