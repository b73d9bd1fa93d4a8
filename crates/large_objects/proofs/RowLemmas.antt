-- Rows that are added, changed in place or removed.
use Rattle.std.proofs.Common.{◌≡◌, ◌≢◌, ◌∙◌, ℕ, suc, ◌+◌, ◌<◌, ◌≤◌, Bool, true, false, ◌||◌, cond, eqb, List, [], ◌∷◌, ◌++◌, map, length, get_or, take, drop, refl, sym, ap, subst, inl, inr, arith, true≢false}
use Rattle.std.specs.Prelude.{All, nat_eq}
use Rattle.std.specs.List.{AllByRecursion, filter, list_any, IsDistinct}
use Rattle.std.proofs.lemmas.Bool.{cases_eq, ne_eqb, eq-eqb, eqb-false}
use Rattle.std.proofs.lemmas.Cmp.{nat_eq_equiv}
use Rattle.std.proofs.lemmas.List.{get_or-map, get_or-take, get_or-drop, length-map, length-take, length-drop, map-append}
use Rattle.std.proofs.lemmas.List.Elements.{All-filter, All-map, All-push}
use Rattle.std.proofs.lemmas.List.Folds.{list_any_at, list_any_none}
use Rattle.std.proofs.lemmas.Map.Keys.{IsDistinct-head, IsDistinct-tail, IsDistinct-cons, IsDistinct-push, apart_from_distinct}
use Rattle.large_objects.specs.declared.rows.LargeRow.{LargeRow}
use Rattle.large_objects.specs.Rows.{AreRising, AreRows, IsBytes, cleared, has_slot, promoted_row}
use Rattle.large_objects.specs.Table.{slot_of}

abbrev pub slots : List LargeRow → List ℕ
slots rows = map (λ (row : LargeRow). row.slot) rows

-- a change of rows that leaves each object and its slot
pub record KeepsSlots (f : LargeRow → LargeRow) : Type 0 where
  pub number : (row : LargeRow) → (f row).number ≡ row.number
  pub slot : (row : LargeRow) → (f row).slot ≡ row.slot
  pub bytes : (row : LargeRow) → (f row).bytes ≡ row.bytes

pub keeps-cleared : KeepsSlots cleared
keeps-cleared = record { number = λ row. refl; slot = λ row. refl; bytes = λ row. refl }

pub keeps-promoted : KeepsSlots promoted_row
keeps-promoted = record { number = λ row. refl; slot = λ row. refl; bytes = λ row. refl }

-- BY RISING NUMBER

pub rising-lower : (a b : ℕ) (rows : List LargeRow) → a ≤ b → AreRising b rows → AreRising a rows
rising-lower a b [] le r = tt
rising-lower a b (row ∷ rest) le r = (omega (arith, r.0, le), r.1)

pub rising-filter : (p : LargeRow → Bool) (low : ℕ) (rows : List LargeRow) → AreRising low rows → AreRising low (filter p rows)
rising-filter p low [] r = tt
rising-filter p low (row ∷ rest) r = by (p row) (rising-filter p (row.number + 1) rest r.1)
  where
    by : (b : Bool) → AreRising (row.number + 1) (filter p rest) → AreRising low (cond b (row ∷ filter p rest) (filter p rest))
    by true later = (r.0, later)
    by false later = rising-lower low (row.number + 1) (filter p rest) (omega (arith, r.0)) later

pub rising-map : (f : LargeRow → LargeRow) → KeepsSlots f → (low : ℕ) (rows : List LargeRow) → AreRising low rows → AreRising low (map f rows)
rising-map f keeps low [] r = tt
rising-map f keeps low (row ∷ rest) r = (
  omega (arith, r.0, keeps.number row),
  subst (λ n. AreRising (n + 1) (map f rest)) (sym (keeps.number row)) (rising-map f keeps (row.number + 1) rest r.1),
)

pub rising-push : (low : ℕ) (rows : List LargeRow) (row : LargeRow) → AreRising low rows → low ≤ row.number → All (λ (it : LargeRow). it.number < row.number) rows → AreRising low (rows ++ row ∷ [])
rising-push low [] row r le newer = (le, tt)
rising-push low (x ∷ rest) row r le newer =
    let first : x.number < row.number = newer 0 x (omega arith) in
    (r.0, rising-push (x.number + 1) rest row r.1 (omega (arith, first)) (λ k d within. newer (suc k) d (omega (arith, within))))

-- EACH IN A SLOT OF ITS OWN

pub slots-map : (f : LargeRow → LargeRow) → KeepsSlots f → (rows : List LargeRow) → slots (map f rows) ≡ slots rows
slots-map f keeps [] = refl
slots-map f keeps (row ∷ rest) = ap (λ s. s ∷ slots (map f rest)) (keeps.slot row) ∙ ap (λ xs. row.slot ∷ xs) (slots-map f keeps rest)

pub apart-filter : (p : LargeRow → Bool) (k : ℕ) (rows : List LargeRow) → AllByRecursion (λ y. nat_eq k y ≡ false) (slots rows) → AllByRecursion (λ y. nat_eq k y ≡ false) (slots (filter p rows))
apart-filter p k [] all = tt
apart-filter p k (row ∷ rest) all = by (p row) (apart-filter p k rest all.1)
  where
    by : (b : Bool) → AllByRecursion (λ y. nat_eq k y ≡ false) (slots (filter p rest)) → AllByRecursion (λ y. nat_eq k y ≡ false) (slots (cond b (row ∷ filter p rest) (filter p rest)))
    by true later = (all.0, later)
    by false later = later

pub distinct-filter : (p : LargeRow → Bool) (rows : List LargeRow) → IsDistinct nat_eq (slots rows) → IsDistinct nat_eq (slots (filter p rows))
distinct-filter p [] d = d
distinct-filter p (row ∷ rest) d = by (p row) (distinct-filter p rest (IsDistinct-tail nat_eq row.slot (slots rest) d))
  where
    by : (b : Bool) → IsDistinct nat_eq (slots (filter p rest)) → IsDistinct nat_eq (slots (cond b (row ∷ filter p rest) (filter p rest)))
    by true later = IsDistinct-cons nat_eq row.slot (slots (filter p rest)) (apart-filter p row.slot rest (IsDistinct-head nat_eq row.slot (slots rest) d)) later
    by false later = later

pub eqb-swap : (a b : ℕ) → eqb a b ≡ eqb b a
eqb-swap a b = elim (cases_eq a b) [
  | inl same ↦ eq-eqb a b same ∙ sym (eq-eqb b a (sym same))
  | inr other ↦ ne_eqb a b other ∙ sym (ne_eqb b a (λ same. other (sym same)))
]

-- whether some row has a slot is a test of the slots alone
pub any-slot : (slot : ℕ) (rows : List LargeRow) → list_any (nat_eq slot) (slots rows) ≡ list_any (has_slot slot) rows
any-slot slot [] = refl
any-slot slot (row ∷ rest) = ap (λ b. b || list_any (nat_eq slot) (slots rest)) (eqb-swap slot row.slot) ∙ ap (λ b. eqb row.slot slot || b) (any-slot slot rest)

pub distinct-push : (rows : List LargeRow) (row : LargeRow) → IsDistinct nat_eq (slots rows) → list_any (has_slot row.slot) rows ≡ false → IsDistinct nat_eq (slots (rows ++ row ∷ []))
distinct-push rows row d fresh =
    subst (IsDistinct nat_eq) (sym (map-append (λ (it : LargeRow). it.slot) rows (row ∷ [])))
    (IsDistinct-push nat_eq_equiv (slots rows) row.slot d (any-slot row.slot rows ∙ fresh))

-- the rows before and after one have other slots
pub front-apart : (rows : List LargeRow) (i : ℕ) → IsDistinct nat_eq (slots rows) → i < length rows → All (λ (row : LargeRow). row.slot ≢ slot_of rows i) (take i rows)
front-apart rows i d within k row below same =
    let k-below : k < i = omega (arith, below, length-take i rows) in
    let is : get_or (slots rows) k 0 ≡ (get_or rows k row).slot = get_or-map (λ (it : LargeRow). it.slot) rows k row 0 (omega (arith, k-below, within)) in
    let taken : get_or (take i rows) k row ≡ get_or rows k row = get_or-take i rows k row k-below in
    eqb-false (get_or (slots rows) k 0) (get_or (slots rows) i 0)
    (apart_from_distinct nat_eq (slots rows) k i 0 d k-below (omega (arith, within, length-map rows (λ (it : LargeRow). it.slot))))
    (is ∙ sym (ap (λ (it : LargeRow). it.slot) taken) ∙ same)

pub back-apart : (rows : List LargeRow) (i : ℕ) → IsDistinct nat_eq (slots rows) → i < length rows → All (λ (row : LargeRow). row.slot ≢ slot_of rows i) (drop (i + 1) rows)
back-apart rows i d within k row below same =
    let k-within : i + 1 + k < length rows = omega (arith, below, length-drop (i + 1) rows) in
    let is : get_or (slots rows) (i + 1 + k) 0 ≡ (get_or rows (i + 1 + k) row).slot = get_or-map (λ (it : LargeRow). it.slot) rows (i + 1 + k) row 0 k-within in
    let dropped : get_or (drop (i + 1) rows) k row ≡ get_or rows (i + 1 + k) row = get_or-drop (i + 1) rows k row in
    eqb-false (get_or (slots rows) i 0) (get_or (slots rows) (i + 1 + k) 0)
    (apart_from_distinct nat_eq (slots rows) i (i + 1 + k) 0 d (omega arith) (omega (arith, k-within, length-map rows (λ (it : LargeRow). it.slot))))
    (sym (is ∙ sym (ap (λ (it : LargeRow). it.slot) dropped) ∙ same))

-- no row has a slot
pub slot-apart : (slot : ℕ) (rows : List LargeRow) → list_any (has_slot slot) rows ≡ false → All (λ (row : LargeRow). row.slot ≢ slot) rows
slot-apart slot rows fresh k row within same = true≢false (sym (list_any_at (has_slot slot) rows k row within (eq-eqb (get_or rows k row).slot slot same)) ∙ fresh)

pub apart-slot : (slot : ℕ) (rows : List LargeRow) → All (λ (row : LargeRow). row.slot ≢ slot) rows → list_any (has_slot slot) rows ≡ false
apart-slot slot rows apart = list_any_none (has_slot slot) rows (λ k row within. ne_eqb (get_or rows k row).slot slot (apart k row within))

-- the slot of a row that stands at an index
pub slot-at : (rows : List LargeRow) (i : ℕ) (d : LargeRow) → i < length rows → slot_of rows i ≡ (get_or rows i d).slot
slot-at rows i d within = get_or-map (λ (it : LargeRow). it.slot) rows i d 0 within

-- ALL OF IT

distinct-none : IsDistinct nat_eq []
unfolding IsDistinct
distinct-none = tt

pub rows-none : AreRows []
rows-none = record { rising = tt; apart = distinct-none; within = λ k d h. absurd (omega (arith, h)); bytes = λ k d h. absurd (omega (arith, h)) }

pub rows-filter : (p : LargeRow → Bool) (rows : List LargeRow) → AreRows rows → AreRows (filter p rows)
rows-filter p rows a = record {
  rising = rising-filter p 0 rows a.rising;
  apart = distinct-filter p rows a.apart;
  within = All-filter p (λ (row : LargeRow). row.slot < 512) rows a.within;
  bytes = All-filter p (λ (row : LargeRow). IsBytes row.bytes) rows a.bytes;
}

pub rows-map : (f : LargeRow → LargeRow) → KeepsSlots f → (rows : List LargeRow) → AreRows rows → AreRows (map f rows)
rows-map f keeps rows a = record {
  rising = rising-map f keeps 0 rows a.rising;
  apart = subst (IsDistinct nat_eq) (sym (slots-map f keeps rows)) a.apart;
  within = All-map (λ (row : LargeRow). row.slot < 512) f rows (λ k d h. subst (λ s. s < 512) (sym (keeps.slot (get_or rows k d))) (a.within k d h));
  bytes = All-map (λ (row : LargeRow). IsBytes row.bytes) f rows (λ k d h. subst IsBytes (sym (keeps.bytes (get_or rows k d))) (a.bytes k d h));
}

pub rows-push : (rows : List LargeRow) (row : LargeRow) → AreRows rows → All (λ (it : LargeRow). it.number < row.number) rows → list_any (has_slot row.slot) rows ≡ false → row.slot < 512 → IsBytes row.bytes → AreRows (rows ++ row ∷ [])
rows-push rows row a newer fresh within bytes = record {
  rising = rising-push 0 rows row a.rising (omega arith) newer;
  apart = distinct-push rows row a.apart fresh;
  within = All-push (λ (it : LargeRow). it.slot < 512) rows row a.within within;
  bytes = All-push (λ (it : LargeRow). IsBytes it.bytes) rows row a.bytes bytes;
}

-- each row's slot is one of those that there are
pub slot-in : (rows : List LargeRow) (i : ℕ) → AreRows rows → i < length rows → slot_of rows i < 512
slot-in [] i a within = absurd (omega (arith, within))
slot-in (row ∷ rest) i a within = subst (λ s. s < 512) (sym (slot-at (row ∷ rest) i row within)) (a.within i row within)
