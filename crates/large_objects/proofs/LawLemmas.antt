-- How rows are found and what they cost, the pages of rows that change in place, and how many there are.
use Rattle.std.proofs.Common.{◌≡◌, ◌∙◌, ℕ, zero, suc, ◌+◌, ◌-◌, ◌*◌, ◌/◌, ◌<◌, ◌≤◌, Bool, true, false, ◌&&◌, ◌||◌, cond, eqb, leb, ltb, count_by, get_or, List, [], ◌∷◌, length, map, Option, Some, None, refl, sym, ap, arith, true≢false}
use Rattle.std.specs.Prelude.{All, IsTrue, is_some, nat_eq, option_map}
use Rattle.std.specs.List.{filter, list_any, IsDistinct}
use Rattle.std.proofs.lemmas.Bool.{and_from, cond-false, cond-true, eq-eqb, le-leb, leb-true, lt-ltb, ltb-true, ne_eqb}
use Rattle.std.proofs.lemmas.List.Sums.{sum_by-cons}
use Rattle.std.proofs.lemmas.Map.Keys.{IsDistinct-head, IsDistinct-tail}
use Rattle.page_tables.specs.declared.address.Window.TheVariants.{Large}
use Rattle.page_tables.specs.Address.{first_page, is_in, page_count, page_of}
use Rattle.cow_pages.specs.Memory.{Memory, Page, flag_of, is_mapped, is_written, mapped_in, page_at, written_in, IsSound}
use Rattle.cow_pages.specs.View.{numbers_from}
use Rattle.cow_pages.proofs.LawLemmas.{counts, count-same, count-none}
use Rattle.image_space.specs.Space.{pages_up_to}
use Rattle.page_runs.proofs.LawLemmas.{run-count}
use Rattle.large_objects.specs.declared.rows.LargeRow.{LargeRow}
use Rattle.page_runs.specs.Covered.{covers}
use Rattle.large_objects.specs.Pages.{HasPages, holds_page, page_sum}
use Rattle.large_objects.specs.Rows.{AreRows, IsBytes, cost_of, costs_of, row_at, slot_base, waits}
use Rattle.large_objects.proofs.PageLemmas.{any-kept, any-split, none-holds, one-side, slots-apart}
use Rattle.large_objects.proofs.RowLemmas.{KeepsSlots, rows-filter, slots}

-- a row that stands at an index is the one of its slot
pub row-of : (rows : List LargeRow) (k : ℕ) (row : LargeRow) → IsDistinct nat_eq (slots rows) → k < length rows → get_or rows k row ≡ row → row_at rows (slot_base row.slot) ≡ Some row
row-of [] k row d within is = absurd (omega (arith, within))
row-of (x ∷ rest) zero row d within is =
    cond-true (eqb (slot_base x.slot) (slot_base row.slot)) (Some x) (row_at rest (slot_base row.slot)) (eq-eqb _ _ (ap (λ (it : LargeRow). slot_base it.slot) is))
    ∙ ap (λ (it : LargeRow). Some it) is
row-of (x ∷ rest) (suc k) row d within is =
    let below : k < length rest = omega (arith, within) in
    let apart = slots-apart x.slot rest (IsDistinct-head nat_eq x.slot (slots rest) d) k row below in
    cond-false (eqb (slot_base x.slot) (slot_base row.slot)) (Some x) (row_at rest (slot_base row.slot))
    (ne_eqb _ _ (λ same. apart (ap (λ (it : LargeRow). it.slot) is ∙ omega (arith, same))))
    ∙ row-of rest k row (IsDistinct-tail nat_eq x.slot (slots rest) d) below is

-- a change that keeps slots is seen in the row of an address
pub row-map : (f : LargeRow → LargeRow) → KeepsSlots f → (rows : List LargeRow) (at : ℕ) → row_at (map f rows) at ≡ option_map f (row_at rows at)
row-map f keeps [] at = refl
row-map f keeps (row ∷ rest) at =
    ap (λ s. cond (eqb (slot_base s) at) (Some (f row)) (row_at (map f rest) at)) (keeps.slot row)
    ∙ by (eqb (slot_base row.slot) at) (row-map f keeps rest at)
  where
    by : (b : Bool) → row_at (map f rest) at ≡ option_map f (row_at rest at) → cond b (Some (f row)) (row_at (map f rest) at) ≡ option_map f (cond b (Some row) (row_at rest at))
    by true later = refl
    by false later = later

pub rows-cost : (rows : List LargeRow) → All (λ (it : LargeRow). IsBytes it.bytes) rows → length rows ≤ costs_of rows
rows-cost [] bytes = omega arith
rows-cost (row ∷ rest) bytes =
    let size = bytes 0 row (omega arith) in
    omega (
      arith,
      size.some,
      rows-cost rest (λ k it below. bytes (suc k) it (omega (arith, below))),
      sum_by-cons (λ (n : ℕ). n) (cost_of row) (map cost_of rest),
    )

same-test : (a b : Bool) → (a ≡ true → b ≡ true) → (b ≡ true → a ≡ true) → a ≡ b
same-test true b to from = sym (to refl)
same-test false true to from = from refl
same-test false false to from = refl

-- the last of the bytes lies in the last page with or without those that round them up
last-page : (slot bytes : ℕ) → 1 ≤ bytes → page_of (slot_base slot) + pages_up_to bytes ≡ page_of (slot_base slot + (bytes + 7) / 8 * 8 - 1) + 1
last-page slot bytes some = omega (arith, some)

pub row-covers : (row : LargeRow) (p : ℕ) → IsBytes row.bytes → holds_page p row ≡ covers (slot_base row.slot) ((row.bytes + 7) / 8 * 8) p
row-covers row p bytes =
    let last = last-page row.slot row.bytes bytes.some in
    ap (λ b. leb (page_of (slot_base row.slot)) p && b) (same-test (ltb p (page_of (slot_base row.slot) + pages_up_to row.bytes)) (leb p (page_of (slot_base row.slot + (row.bytes + 7) / 8 * 8 - 1)))
    (λ h. le-leb _ _ (omega (arith, ltb-true _ _ h, last)))
    (λ h. lt-ltb _ _ (omega (arith, leb-true _ _ h, last))))

-- a change that keeps slots and bytes keeps the pages
pub pages-kept : (f : LargeRow → LargeRow) → KeepsSlots f → (m : Memory) (t : ℕ) (rows : List LargeRow) → HasPages m t rows → HasPages m t (map f rows)
pages-kept f keeps m t rows has p window = has p window ∙ sym (any-kept f keeps p rows)

-- numbers that pass one of two tests, but never both
pub count-either : (f g : ℕ → Bool) (xs : List ℕ) → ((x : ℕ) → f x ≡ true → g x ≡ false) → count_by (λ x. f x || g x) xs ≡ count_by f xs + count_by g xs
count-either f g [] apart = refl
count-either f g (x ∷ xs) apart =
    omega (
      arith,
      sum_by-cons (λ (y : ℕ). cond (f y || g y) 1 0) x xs,
      sum_by-cons (λ (y : ℕ). cond (f y) 1 0) x xs,
      sum_by-cons (λ (y : ℕ). cond (g y) 1 0) x xs,
      here (f x) (g x) (apart x),
      count-either f g xs apart,
    )
  where
    here : (a b : Bool) → (a ≡ true → b ≡ false) → ◌≡◌ {A = ℕ} (cond (a || b) 1 0) (cond a 1 0 + cond b 1 0)
    here true true never = absurd (true≢false (never refl))
    here true false never = refl
    here false true never = refl
    here false false never = refl

pub rows-count : (a k : ℕ) (rows : List LargeRow) → IsDistinct nat_eq (slots rows) → All (λ (it : LargeRow). IsBytes it.bytes) rows
    → All (λ (it : LargeRow). (a ≤ page_of (slot_base it.slot)) × (page_of (slot_base it.slot) + 256 ≤ a + k)) rows → count_by (λ p. list_any (holds_page p) rows) (numbers_from a k) ≡ page_sum rows
rows-count a k [] d bytes within = count-none a k
rows-count a k (row ∷ rest) d bytes within =
    let others : All (λ (it : LargeRow). IsBytes it.bytes) rest = λ j it below. bytes (suc j) it (omega (arith, below)) in
    let size = bytes 0 row (omega arith) in
    let place = within 0 row (omega arith) in
    let apart = slots-apart row.slot rest (IsDistinct-head nat_eq row.slot (slots rest) d) in
    omega (
      arith,
      count-either (λ p. holds_page p row) (λ p. list_any (holds_page p) rest) (numbers_from a k) (λ p here. none-holds p row rest others size apart here),
      run-count (page_of (slot_base row.slot)) (pages_up_to row.bytes) a k place.0 (omega (arith, place.1, size.most)),
      rows-count a k rest (IsDistinct-tail nat_eq row.slot (slots rest) d) others (λ j it below. within (suc j) it (omega (arith, below))),
      sum_by-cons (λ (n : ℕ). n) (pages_up_to row.bytes) (map (λ (it : LargeRow). pages_up_to it.bytes) rest),
    )

pub rows-counted : (m : Memory) (t : ℕ) (rows : List LargeRow) → IsSound m → AreRows rows → HasPages m t rows → mapped_in m t Large ≡ page_sum rows
rows-counted m t rows sound a has =
    (counts m t Large sound).mapped
    ∙ count-same (λ p. list_any (holds_page p) rows) (is_mapped m t) (first_page Large) (page_count Large) (λ p above below. has p (and_from _ _ (le-leb (first_page Large) p above) (lt-ltb p (first_page Large + page_count Large) below)))
    ∙ rows-count (first_page Large) (page_count Large) rows a.apart a.bytes (λ k it below. let slot = a.within k it below in (omega arith, omega (arith, slot)))

written-mapped : (o : Option Page) → flag_of o ≡ true → is_some o ≡ true
written-mapped None h = absurd (true≢false (sym h))
written-mapped (Some page) h = refl

-- the flags of waiting rows' pages are all set, and the others are promoted rows'
pub rows-written : (m : Memory) (t : ℕ) (rows : List LargeRow) → IsSound m → AreRows rows → HasPages m t rows → ((p : ℕ) → IsTrue (list_any (holds_page p) (filter waits rows)) → IsTrue (is_written m t p))
    → written_in m t Large ≡ page_sum (filter waits rows) + count_by (λ p. is_written m t p && list_any (holds_page p) (filter (λ (it : LargeRow). it.promoted) rows)) (numbers_from (first_page Large) (page_count Large))
rows-written m t rows sound a has noted =
    let new = rows-filter waits rows a in
    (counts m t Large sound).written
    ∙ count-same (λ p. waiting p || (is_written m t p && promoted p)) (is_written m t) (first_page Large) (page_count Large) (λ p above below. pass p (and_from _ _ (le-leb (first_page Large) p above) (lt-ltb p (first_page Large + page_count Large) below)))
    ∙ count-either waiting (λ p. is_written m t p && promoted p) (numbers_from (first_page Large) (page_count Large)) (λ p here. none (is_written m t p) (promoted p) (one-side (λ (it : LargeRow). it.promoted) p rows a.apart a.bytes here))
    ∙ ap (λ n. n + count_by (λ p. is_written m t p && promoted p) (numbers_from (first_page Large) (page_count Large)))
    (rows-count (first_page Large) (page_count Large) (filter waits rows) new.apart new.bytes (λ k it below. let slot = new.within k it below in (omega arith, omega (arith, slot))))
  where
    promoted : ℕ → Bool
    promoted p = list_any (holds_page p) (filter (λ (it : LargeRow). it.promoted) rows)

    waiting : ℕ → Bool
    waiting p = list_any (holds_page p) (filter waits rows)

    none : (b c : Bool) → c ≡ false → (b && c) ≡ false
    none true c is = is
    none false c is = refl

    join : (w f g : Bool) → (f ≡ true → w ≡ true) → (w ≡ true → (g || f) ≡ true) → w ≡ (f || (w && g))
    join true true g to from = refl
    join true false true to from = refl
    join true false false to from = sym (from refl)
    join false true g to from = to refl
    join false false g to from = refl

    pass : (p : ℕ) → IsTrue (is_in Large p) → is_written m t p ≡ (waiting p || (is_written m t p && promoted p))
    pass p window =
        join (is_written m t p) (waiting p) (promoted p) (noted p)
        (λ h. sym (any-split (λ (it : LargeRow). it.promoted) p rows) ∙ sym (has p window) ∙ written-mapped (page_at m t p) h)
