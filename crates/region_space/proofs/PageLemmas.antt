-- The pages that hold bytes of the rows' objects, with an object more.
use Rattle.std.proofs.Common.{◌≡◌, ◌≢◌, ◌∙◌, ℕ, ◌+◌, ◌-◌, ◌*◌, ◌<◌, ◌≤◌, Bool, true, false, List, [], ◌∷◌, ◌++◌, length, map, All, nat_le, nat_lt, Option, Some, None, true≢false, refl, sym, ap, inl, inr, arith}
use Rattle.std.specs.Prelude.{◌⊎◌, ◌&&◌, ◌||◌, is_some}
use Rattle.std.proofs.lemmas.Bool.{and_from, cases_eq, cases_lt, le-leb, le-ltb, lt-leb, lt-ltb, or_left, or_right}
use Rattle.std.proofs.lemmas.List.{length-append, length-map}
use Rattle.std.proofs.lemmas.List.Elements.{All-head, All-tail}
use Rattle.std.proofs.lemmas.List.Folds.{list_any-append}
use Rattle.std.proofs.lemmas.List.Sums.{sum_by-cons}
use Rattle.std.proofs.lemmas.Option.{none-some}
use Rattle.std.specs.List.{list_any}
use Rattle.model_numbers.specs.Numbers.{region_bytes}
use Rattle.page_tables.specs.declared.address.Window.TheVariants.{Regions, Image, Zygote, Large}
use Rattle.page_tables.specs.Address.{is_in, is_in_window, page_of}
use Rattle.cow_pages.specs.Memory.{Memory, Page, is_mapped, page_at}
use Rattle.page_runs.specs.Runs.{IsInRun, MapsRun}
use Rattle.image_space.specs.Space.{pages_up_to}
use Rattle.region_lists.specs.Rows.{Lists, Row, last_of, with_last}
use Rattle.region_space.specs.Pages.{page_sum}
use Rattle.region_space.specs.Space.{HasPages, IsFilled, IsSpace, base_of, fill_if, filled, further_from, has_room, holds_page, row_pages, with_object}
use Rattle.region_space.proofs.RoomLemmas.{AreBehind, Fits, Opens}

-- TESTS

-- the page is one of so many from the first on
abbrev pub is_run : ℕ → ℕ → ℕ → Bool
is_run first n p = nat_le first p && nat_lt p (first + n)

and-no : (b : Bool) → (b && false) ≡ false
and-no true = refl
and-no false = refl

or-no : (b : Bool) → (b || false) ≡ b
or-no true = refl
or-no false = refl

or-swap : (a b c : Bool) → (a || (b || c)) ≡ (b || (a || c))
or-swap true true c = refl
or-swap true false c = refl
or-swap false b c = refl

or-flip : (a b : Bool) → (a || b) ≡ (b || a)
or-flip true true = refl
or-flip true false = refl
or-flip false true = refl
or-flip false false = refl

or-join : (a b c : Bool) → (a || (b || c)) ≡ ((a || b) || c)
or-join true b c = refl
or-join false b c = refl

pub inside : (a b p : ℕ) → a ≤ p → p < b → (nat_le a p && nat_lt p b) ≡ true
inside a b p from to = and_from (nat_le a p) (nat_lt p b) (le-leb a p from) (lt-ltb p b to)

pub below : (a b p : ℕ) → p < a → (nat_le a p && nat_lt p b) ≡ false
below a b p before = ap (λ (t : Bool). t && nat_lt p b) (lt-leb a p before)

pub above : (a b p : ℕ) → b ≤ p → (nat_le a p && nat_lt p b) ≡ false
above a b p behind = ap (λ (t : Bool). nat_le a p && t) (le-ltb p b behind) ∙ and-no (nat_le a p)

cut-more : (a x y p : ℕ) → x ≤ y → (nat_le a p && nat_lt p (a + y)) ≡ (is_run (a + x) (y - x) p || (nat_le a p && nat_lt p (a + x)))
cut-more a x y p rises = by (cases_lt p a) (cases_lt p (a + x)) (cases_lt p (a + y))
  where
    either : (s t u v : Bool) → s ≡ u → t ≡ v → (s || t) ≡ (u || v)
    either s t u v one two = ap (λ (b : Bool). b || t) one ∙ ap (λ (b : Bool). u || b) two

    by : (p < a) ⊎ (a ≤ p) → (p < a + x) ⊎ (a + x ≤ p) → (p < a + y) ⊎ (a + y ≤ p) → (nat_le a p && nat_lt p (a + y)) ≡ (is_run (a + x) (y - x) p || (nat_le a p && nat_lt p (a + x)))
    by (inl before) two three =
        below a (a + y) p before
        ∙ sym (either (is_run (a + x) (y - x) p) (nat_le a p && nat_lt p (a + x)) false false (below (a + x) (a + x + (y - x)) p (omega (arith, before))) (below a (a + x) p before))
    by (inr from) (inl first) three =
        inside a (a + y) p from (omega (arith, first, rises))
        ∙ sym (or_right (is_run (a + x) (y - x) p) (nat_le a p && nat_lt p (a + x)) (inside a (a + x) p from first))
    by (inr from) (inr more) (inl within) =
        inside a (a + y) p from within
        ∙ sym (or_left (is_run (a + x) (y - x) p) (nat_le a p && nat_lt p (a + x)) (inside (a + x) (a + x + (y - x)) p more (omega (arith, within, rises))))
    by (inr from) (inr more) (inr behind) =
        above a (a + y) p behind
        ∙ sym (either (is_run (a + x) (y - x) p) (nat_le a p && nat_lt p (a + x)) false false (above (a + x) (a + x + (y - x)) p (omega (arith, behind, rises))) (above a (a + x) p more))

-- the first of the pages that are mapped for an object more, and how many there are
abbrev pub run_from : ℕ → ℕ → ℕ
run_from region fill = page_of (base_of region) + pages_up_to fill

abbrev pub run_length : ℕ → ℕ → ℕ
run_length fill size = pages_up_to (fill + size) - pages_up_to fill

row-more : (p region fill size : ℕ) → holds_page p (record { region = region; fill = fill + size }) ≡ (is_run (run_from region fill) (run_length fill size) p || holds_page p (record { region = region; fill = fill }))
row-more p region fill size = cut-more (page_of (base_of region)) (pages_up_to fill) (pages_up_to (fill + size)) p (omega arith)

-- ROWS

any-last : (rows : List Row) (last : Row) (fill p : ℕ) (t : Bool) → last_of rows ≡ Some last → holds_page p (record { region = last.region; fill = fill }) ≡ (t || holds_page p last)
    → list_any (holds_page p) (with_last rows fill) ≡ (t || list_any (holds_page p) rows)
any-last [] last fill p t is more = absurd (none-some last is)
any-last (row ∷ []) last fill p t is more =
    let same : row ≡ last = cc in
    or-no (holds_page p (record { region = row.region; fill = fill }))
    ∙ ap (λ (it : Row). holds_page p (record { region = it.region; fill = fill })) same
    ∙ more
    ∙ ap (λ (it : Row). t || holds_page p it) (sym same)
    ∙ ap (λ (b : Bool). t || b) (sym (or-no (holds_page p row)))
any-last (row ∷ next ∷ rest) last fill p t is more =
    ap (λ (b : Bool). holds_page p row || b) (any-last (next ∷ rest) last fill p t is more) ∙ or-swap (holds_page p row) t (list_any (holds_page p) (next ∷ rest))

pub holds-more : (rows : List Row) (region fill size p : ℕ) → Fits rows region fill size ⊎ Opens rows region fill size
    → list_any (holds_page p) (with_object rows region size) ≡ (is_run (run_from region fill) (run_length fill size) p || list_any (holds_page p) rows)
holds-more rows region fill size p (inl fits) =
    let t = is_run (run_from region fill) (run_length fill size) p in
    let row : holds_page p (record { region = fits.last.region; fill = fill + size }) ≡ (t || holds_page p fits.last) =
    ap (λ k. holds_page p (record { region = k; fill = fill + size })) (sym fits.region_is)
    ∙ row-more p region fill size
    ∙ ap (λ (k : ℕ). t || holds_page p (record { region = k; fill = fill })) fits.region_is
    ∙ ap (λ (k : ℕ). t || holds_page p (record { region = fits.last.region; fill = k })) fits.fill_is in
    ap (list_any (holds_page p)) fits.more ∙ any-last rows fits.last (fill + size) p t fits.last_is row
holds-more rows region fill size p (inr opens) =
    let t = is_run (run_from region fill) (run_length fill size) p in
    let all : fill + size ≡ size = omega (arith, opens.fill_is) in
    let none : holds_page p (record { region = region; fill = fill }) ≡ false = none-held (page_of (base_of region)) p fill opens.fill_is in
    let row : holds_page p (record { region = region; fill = size }) ≡ t =
    ap (λ k. holds_page p (record { region = region; fill = k })) (sym all) ∙ row-more p region fill size ∙ ap (λ (b : Bool). t || b) none ∙ or-no t in
    ap (list_any (holds_page p)) opens.more
    ∙ list_any-append (holds_page p) rows (record { region = region; fill = size } ∷ [])
    ∙ ap (λ (b : Bool). list_any (holds_page p) rows || b) (or-no (holds_page p (record { region = region; fill = size })) ∙ row)
    ∙ or-flip (list_any (holds_page p) rows) t
  where
    none-held : (a p fill : ℕ) → fill ≡ 0 → (nat_le a p && nat_lt p (a + pages_up_to fill)) ≡ false
    none-held a p fill empty = elim (cases_lt p a) [
      | inl before ↦ below a (a + pages_up_to fill) p before
      | inr from ↦ above a (a + pages_up_to fill) p (omega (arith, from, empty))
    ]

-- HOW MANY

pub page_sum-cons : (row : Row) (rows : List Row) → page_sum (row ∷ rows) ≡ row_pages row + page_sum rows
page_sum-cons row rows = sum_by-cons (λ (n : ℕ). n) (row_pages row) (map row_pages rows)

pub page_sum-append : (rows more : List Row) → page_sum (rows ++ more) ≡ page_sum rows + page_sum more
page_sum-append [] more = omega arith
page_sum-append (row ∷ rows) more = omega (arith, page_sum-cons row (rows ++ more), page_sum-cons row rows, page_sum-append rows more)

sum-last : (rows : List Row) (last : Row) (fill : ℕ) → last_of rows ≡ Some last → page_sum (with_last rows fill) + pages_up_to last.fill ≡ page_sum rows + pages_up_to fill
sum-last [] last fill is = absurd (none-some last is)
sum-last (row ∷ []) last fill is =
    let same : row ≡ last = cc in
    let pages = ap (λ (it : Row). pages_up_to it.fill) same in
    omega (arith, page_sum-cons (record { region = row.region; fill = fill }) [], page_sum-cons row [], pages)
sum-last (row ∷ next ∷ rest) last fill is = omega (arith, page_sum-cons row (with_last (next ∷ rest) fill), page_sum-cons row (next ∷ rest), sum-last (next ∷ rest) last fill is)

pub sum-more : (rows : List Row) (region fill size : ℕ) → Fits rows region fill size ⊎ Opens rows region fill size → page_sum (with_object rows region size) ≡ page_sum rows + run_length fill size
sum-more rows region fill size (inl fits) =
    let pages = ap pages_up_to fits.fill_is in
    let rises : pages_up_to fill ≤ pages_up_to (fill + size) = omega arith in
    omega (arith, ap page_sum fits.more, sum-last rows fits.last (fill + size) fits.last_is, pages, rises)
sum-more rows region fill size (inr opens) =
    let row : Row = record { region = region; fill = size } in
    let all : run_length fill size ≡ pages_up_to size = omega (arith, opens.fill_is) in
    omega (arith, ap page_sum opens.more, page_sum-append rows (row ∷ []), page_sum-cons row [], all)

rows-most : (rows : List Row) → All IsFilled rows → page_sum rows ≤ 64 * length rows
rows-most [] all = omega arith
rows-most (row ∷ rest) all =
    let most = (All-head IsFilled row rest all).most in
    let pages : row_pages row ≤ 64 = omega (arith, most) in
    omega (arith, page_sum-cons row rest, pages, rows-most rest (All-tail IsFilled row rest all))

pub space-pages : (s : Lists) → IsSpace s → page_sum (filled s) ≤ 65536
space-pages s space =
    let regions = λ (rows : List Row). map (λ (row : Row). row.region) rows in
    omega (
      arith,
      rows-most (filled s) space.filled,
      length-append s.in_use s.from,
      length-append (regions s.in_use ++ regions s.from) s.free,
      length-append (regions s.in_use) (regions s.from),
      length-map s.in_use (λ (row : Row). row.region),
      length-map s.from (λ (row : Row). row.region),
      space.lists.all,
      space.few,
    )

-- MAPPED

pub run-in_window : (region fill size p : ℕ) → region < 1024 → fill + size ≤ region_bytes → IsInRun (run_from region fill) (run_length fill size) p → is_in Regions p ≡ true
run-in_window region fill size p few fits in_run =
    inside 262144 327680 p (omega (arith, in_run.from)) (omega (arith, in_run.from, in_run.to, few, fits))

pub in_some-window : (p : ℕ) → is_in Regions p ≡ true → is_in_window p ≡ true
in_some-window p here = or_left (is_in Image p || is_in Zygote p || is_in Regions p) (is_in Large p) (or_right (is_in Image p || is_in Zygote p) (is_in Regions p) here)

-- none of the rows has bytes in the pages behind those of the region's objects
pub none-there : (rows : List Row) (region fill size p : ℕ) → All IsFilled rows → AreBehind region fill rows → fill + size ≤ region_bytes → IsInRun (run_from region fill) (run_length fill size) p → list_any (holds_page p) rows ≡ false
none-there [] region fill size p all apart fits in_run = refl
none-there (row ∷ rest) region fill size p all apart fits in_run =
    ap (λ (b : Bool). b || list_any (holds_page p) rest) (by (All-head (λ (row : Row). (row.region ≢ region) ⊎ (row.fill ≡ fill)) row rest apart) (cases_eq row.region region))
    ∙ none-there rest region fill size p (All-tail IsFilled row rest all) (All-tail (λ (row : Row). (row.region ≢ region) ⊎ (row.fill ≡ fill)) row rest apart) fits in_run
  where
    most : row.fill ≤ region_bytes
    most = (All-head IsFilled row rest all).most

    beside : row.region ≢ region → holds_page p row ≡ false
    beside other = elim (cases_lt p (page_of (base_of row.region))) [
      | inl before ↦ below (page_of (base_of row.region)) (page_of (base_of row.region) + row_pages row) p before
      | inr from ↦ elim (cases_lt p (page_of (base_of row.region) + row_pages row)) [
        | inl within ↦
            let pages : row_pages row ≤ 64 = omega (arith, most) in
            absurd (other (omega (arith, from, within, pages, in_run.from, in_run.to, fits)))
        | inr behind ↦ above (page_of (base_of row.region)) (page_of (base_of row.region) + row_pages row) p behind
      ]
    ]

    by : (row.region ≢ region) ⊎ (row.fill ≡ fill) → (row.region ≡ region) ⊎ (row.region ≢ region) → holds_page p row ≡ false
    by (inl other) side = beside other
    by (inr same) (inr other) = beside other
    by (inr same) (inl here) =
        above (page_of (base_of row.region)) (page_of (base_of row.region) + row_pages row) p (omega (arith, ap pages_up_to same, here, in_run.from))

pub none-mapped : (o : Option Page) → is_some o ≡ false → o ≡ None
none-mapped None is = refl
none-mapped (Some page) is = absurd (true≢false is)

pub run-unmapped : (m : Memory) (t : ℕ) (rows : List Row) (region fill size p : ℕ) → HasPages m t rows → All IsFilled rows → AreBehind region fill rows → region < 1024 → fill + size ≤ region_bytes
    → IsInRun (run_from region fill) (run_length fill size) p → page_at m t p ≡ None
run-unmapped m t rows region fill size p has all apart few fits in_run =
    none-mapped (page_at m t p) (has p (run-in_window region fill size p few fits in_run) ∙ none-there rows region fill size p all apart fits in_run)

-- what is mapped once a run was mapped
pub mapped-after : (old new : Memory) (t first n p : ℕ) → MapsRun old new t first n → is_mapped new t p ≡ (is_run first n p || is_mapped old t p)
mapped-after old new t first n p maps = by (cases_lt p first) (cases_lt p (first + n))
  where
    by : (p < first) ⊎ (first ≤ p) → (p < first + n) ⊎ (first + n ≤ p) → is_mapped new t p ≡ (is_run first n p || is_mapped old t p)
    by (inl before) to = ap is_some (maps.others t p (inr (inl before))) ∙ sym (ap (λ (b : Bool). b || is_mapped old t p) (below first (first + n) p before))
    by (inr from) (inl within) =
        ap is_some (maps.zeros p (record { from = from; to = within })).now ∙ sym (or_left (is_run first n p) (is_mapped old t p) (inside first (first + n) p from within))
    by (inr from) (inr behind) = ap is_some (maps.others t p (inr (inr behind))) ∙ sym (ap (λ (b : Bool). b || is_mapped old t p) (above first (first + n) p behind))

pub pages-after : (old new : Memory) (t : ℕ) (in_use from : List Row) (region fill size : ℕ) → HasPages old t (in_use ++ from) → MapsRun old new t (run_from region fill) (run_length fill size)
    → Fits in_use region fill size ⊎ Opens in_use region fill size → HasPages new t (with_object in_use region size ++ from)
pages-after old new t in_use from region fill size has maps room p window =
    let t_run = is_run (run_from region fill) (run_length fill size) p in
    mapped-after old new t (run_from region fill) (run_length fill size) p maps
    ∙ ap (λ (b : Bool). t_run || b) (has p window ∙ list_any-append (holds_page p) in_use from)
    ∙ or-join t_run (list_any (holds_page p) in_use) (list_any (holds_page p) from)
    ∙ ap (λ (b : Bool). b || list_any (holds_page p) from) (sym (holds-more in_use region fill size p room))
    ∙ sym (list_any-append (holds_page p) (with_object in_use region size) from)

pub from-is : (rows : List Row) (region fill size : ℕ) → fill ≡ fill_if (has_room (last_of rows) size) (last_of rows) → further_from rows (base_of region + fill) size ≡ run_from region fill
from-is rows region fill size fills =
    let back : base_of region + fill - fill ≡ base_of region = omega arith in
    ap (λ k. page_of (base_of region + fill - k) + pages_up_to k) (sym fills) ∙ ap (λ k. page_of k + pages_up_to fill) back

pub filled-is : (s new : Lists) (region size : ℕ) → new.in_use ≡ with_object s.in_use region size → new.from ≡ s.from → filled new ≡ with_object s.in_use region size ++ s.from
filled-is s new region size in_use from = ap (λ rows. rows ++ new.from) in_use ∙ ap (λ rows. with_object s.in_use region size ++ rows) from

pub sum-after : (s new : Lists) (region fill size : ℕ) → new.in_use ≡ with_object s.in_use region size → new.from ≡ s.from → Fits s.in_use region fill size ⊎ Opens s.in_use region fill size
    → page_sum (filled new) ≡ page_sum (filled s) + run_length fill size
sum-after s new region fill size in_use from room =
    omega (
      arith,
      ap page_sum (filled-is s new region size in_use from),
      page_sum-append (with_object s.in_use region size) s.from,
      page_sum-append s.in_use s.from,
      sum-more s.in_use region fill size room,
    )
