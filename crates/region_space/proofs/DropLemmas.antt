-- The from regions, released one after the other.
use Rattle.std.proofs.Common.{◌≡◌, ◌≢◌, ◌∙◌, ℕ, ◌+◌, ◌/◌, ◌%◌, ◌<◌, ◌≤◌, Bool, true, false, List, [], ◌∷◌, ◌++◌, map, All, nat_le, nat_lt, nat_eq, Option, Some, None, refl, sym, ap, subst, inl, inr, arith}
use Rattle.std.specs.Prelude.{◌⊎◌, ◌||◌, is_some, option_map}
use Rattle.std.proofs.lemmas.Bool.{and_parts, cases_Bool, false≢true, leb-true, ltb-true, or_cases, or_left, or_parts, or_right, true≢false}
use Rattle.std.proofs.lemmas.List.{append_assoc}
use Rattle.std.proofs.lemmas.List.Elements.{All-append, All-head, All-tail}
use Rattle.std.proofs.lemmas.List.Folds.{list_any-append}
use Rattle.std.proofs.lemmas.Option.{none-some}
use Rattle.std.specs.List.{IsDistinct, list_any}
use Rattle.page_tables.specs.declared.address.Window.TheVariants.{Regions}
use Rattle.page_tables.specs.Address.{is_in, page_of}
use Rattle.cow_pages.specs.Memory.{HasOneSharer, Memory, Page, frame_at, is_mapped, page_at}
use Rattle.cow_pages.specs.Only.{OnlyTable}
use Rattle.cow_pages.specs.View.{OthersSeen, view_of}
use Rattle.cow_pages.proofs.ViewLemmas.{SameView-pages, byte-page, mapped-page}
use Rattle.page_runs.specs.Runs.{IsBeside, IsInRun, ReleasesRun}
use Rattle.page_runs.proofs.RunLemmas.{frame-none, frame-same, side}
use Rattle.image_space.specs.Space.{pages_up_to}
use Rattle.region_lists.specs.Rows.{IsLists, Lists, Row, first_of}
use Rattle.region_lists.proofs.ChainLemmas.{apart-head}
use Rattle.region_lists.proofs.MoveLemmas.{all-left, all-right, apart-parts, distinct-left, distinct-right}
use Rattle.region_space.specs.Pages.{LosesRows, ReleasesRows, page_sum}
use Rattle.region_space.specs.Space.{AreAlone, HasPages, IsFilled, IsSpace, base_of, filled, holds_page, row_pages}
use Rattle.region_space.proofs.PageLemmas.{inside, none-there, page_sum-append, page_sum-cons}
use Rattle.region_space.proofs.RoomLemmas.{AreBehind}
use Rattle.region_space.proofs.WalkLemmas.{all-regions}

-- the pages of a row
abbrev pub first_of_row : Row → ℕ
first_of_row row = page_of (base_of row.region)

pub held-run : (row : Row) (p : ℕ) → holds_page p row ≡ true → IsInRun (first_of_row row) (row_pages row) p
held-run row p held =
    let parts = and_parts (nat_le (first_of_row row) p) (nat_lt p (first_of_row row + row_pages row)) held in
    record { from = leb-true (first_of_row row) p parts.0; to = ltb-true p (first_of_row row + row_pages row) parts.1 }

pub run-held : (row : Row) (p : ℕ) → IsInRun (first_of_row row) (row_pages row) p → holds_page p row ≡ true
run-held row p here = inside (first_of_row row) (first_of_row row + row_pages row) p here.from here.to

pub beside-row : (t u q : ℕ) (row : Row) → (u ≢ t) ⊎ (holds_page q row ≡ false) → IsBeside t (first_of_row row) (row_pages row) u q
beside-row t u q row (inl other) = inl other
beside-row t u q row (inr none) = elim (side t (first_of_row row) (row_pages row) u q) [
  | inl apart ↦ apart
  | inr here ↦ absurd (true≢false (sym (run-held row q here.1) ∙ none))
]

-- RELEASED

pub released-none : (m : Memory) (t : ℕ) → ReleasesRows m m t []
released-none m t = record {
  gone = λ p there. absurd (false≢true there);
  others = λ u q apart. refl;
  live = λ u. refl;
  reads = refl;
  frames = refl;
  leaf_count = refl;
  spare = omega arith;
  used = omega arith;
}

any-one : (p : ℕ) (rows : List Row) (row : Row) → list_any (holds_page p) (rows ++ row ∷ []) ≡ (list_any (holds_page p) rows || (holds_page p row || false))
any-one p rows row = list_any-append (holds_page p) rows (row ∷ [])

pub released-more : (old mid new : Memory) (t : ℕ) (done : List Row) (row : Row) → ReleasesRows old mid t done → ReleasesRun mid new t (first_of_row row) (row_pages row) → ReleasesRows old new t (done ++ row ∷ [])
released-more old mid new t done row before run = record {
  gone = λ p there. gone p (cases_Bool (holds_page p row)) (or_cases (list_any (holds_page p) done) (holds_page p row || false) (sym (any-one p done row) ∙ there));
  others = λ u q apart. run.others u q (beside-row t u q row (not_row u q apart)) ∙ before.others u q (not_done u q apart);
  live = λ u. run.live u ∙ before.live u;
  reads = run.reads ∙ before.reads;
  frames = run.frames ∙ before.frames;
  leaf_count = run.leaf_count ∙ before.leaf_count;
  spare = omega (arith, before.spare, run.spare);
  used = omega (arith, before.used, run.used, page_sum-append done (row ∷ []), page_sum-cons row []);
}
  where
    gone : (p : ℕ) → (holds_page p row ≡ true) ⊎ (holds_page p row ≡ false) → (list_any (holds_page p) done ≡ true) ⊎ ((holds_page p row || false) ≡ true) → page_at new t p ≡ None
    gone p (inl held) either = run.gone p (held-run row p held)
    gone p (inr none) (inl there) = run.others t p (beside-row t t p row (inr none)) ∙ before.gone p there
    gone p (inr none) (inr held) = absurd (false≢true (sym (ap (λ (b : Bool). b || false) none) ∙ held))

    not_row : (u q : ℕ) → (u ≢ t) ⊎ (list_any (holds_page q) (done ++ row ∷ []) ≡ false) → (u ≢ t) ⊎ (holds_page q row ≡ false)
    not_row u q (inl other) = inl other
    not_row u q (inr none) =
        let last = (or_parts (list_any (holds_page q) done) (holds_page q row || false) (sym (any-one q done row) ∙ none)).1 in
        inr (or_parts (holds_page q row) false last).0

    not_done : (u q : ℕ) → (u ≢ t) ⊎ (list_any (holds_page q) (done ++ row ∷ []) ≡ false) → (u ≢ t) ⊎ (list_any (holds_page q) done ≡ false)
    not_done u q (inl other) = inl other
    not_done u q (inr none) = inr (or_parts (list_any (holds_page q) done) (holds_page q row || false) (sym (any-one q done row) ∙ none)).0

pub rows-only : (old new : Memory) (t : ℕ) (rows : List Row) → ReleasesRows old new t rows → OnlyTable old new t
rows-only old new t rows r = record {
  others = λ u q apart. r.others u q (inl apart);
  live = r.live;
  own = λ p f is. elim (cases_Bool (list_any (holds_page p) rows)) [
    | inl there ↦ absurd (frame-none new t p f (r.gone p there) is)
    | inr none ↦ inl (sym (frame-same old new t p (r.others t p (inr none))) ∙ is)
  ];
}

pub rows-seen : (old new : Memory) (t : ℕ) (rows : List Row) → ReleasesRows old new t rows → OthersSeen old new t
rows-seen old new t rows r u apart = SameView-pages old new u u (λ q. r.others u q (inl apart))

pub rows-lost : (old new : Memory) (t : ℕ) (rows : List Row) → ReleasesRows old new t rows → LosesRows (view_of old t) (view_of new t) rows
rows-lost old new t rows r = record {
  unmapped = λ at there. ap is_some (r.gone (page_of at) there);
  others = λ at none.
      let same = r.others t (page_of at) (inr none) in
      (byte-page old new t t at same, mapped-page old new t t at same);
}

-- THE OTHER ROWS

-- the first from region is none of the others
pub first-apart : (s : Lists) (row : Row) (rest : List Row) → IsSpace s → s.from ≡ row ∷ rest → All (λ (other : Row). other.region ≢ row.region) (s.in_use ++ rest)
first-apart s row rest space is =
    let regions = λ (rows : List Row). map (λ (row : Row). row.region) rows in
    let both : IsDistinct nat_eq (regions s.in_use ++ row.region ∷ regions rest) =
    subst (λ rows. IsDistinct nat_eq (regions s.in_use ++ regions rows)) is (distinct-left (regions s.in_use ++ regions s.from) s.free space.lists.apart) in
    let in_use = All-head (λ k. All (λ n. n ≢ k) (regions s.in_use)) row.region (regions rest) (apart-parts (regions s.in_use) (row.region ∷ regions rest) both) in
    let from = apart-head row.region (regions rest) (distinct-right (regions s.in_use) (row.region ∷ regions rest) both) in
    All-append (λ (other : Row). other.region ≢ row.region) s.in_use rest (all-regions (λ n. n ≢ row.region) s.in_use in_use) (all-regions (λ n. n ≢ row.region) rest from)

pub first-filled : (s : Lists) (row : Row) (rest : List Row) → IsSpace s → s.from ≡ row ∷ rest → IsFilled row
first-filled s row rest space is = All-head IsFilled row rest (subst (All IsFilled) is (all-right IsFilled s.in_use s.from space.filled))

pub rest-filled : (s : Lists) (row : Row) (rest : List Row) → IsSpace s → s.from ≡ row ∷ rest → All IsFilled (s.in_use ++ rest)
rest-filled s row rest space is =
    All-append IsFilled s.in_use rest (all-left IsFilled s.in_use s.from space.filled) (All-tail IsFilled row rest (subst (All IsFilled) is (all-right IsFilled s.in_use s.from space.filled)))

pub first-within : (s : Lists) (row : Row) (rest : List Row) → IsSpace s → s.from ≡ row ∷ rest → row.region < s.count
first-within s row rest space is =
    let regions = λ (rows : List Row). map (λ (row : Row). row.region) rows in
    let from = all-right (λ n. n < s.count) (regions s.in_use) (regions s.from) (all-left (λ n. n < s.count) (regions s.in_use ++ regions s.from) s.free space.lists.within) in
    All-head (λ n. n < s.count) row.region (regions rest) (subst (λ rows. All (λ n. n < s.count) (regions rows)) is from)

pub row-window : (s : Lists) (row : Row) (rest : List Row) (p : ℕ) → IsSpace s → s.from ≡ row ∷ rest → IsInRun (first_of_row row) (row_pages row) p → is_in Regions p ≡ true
row-window s row rest p space is here =
    let within = first-within s row rest space is in
    let most = (first-filled s row rest space is).most in
    inside 262144 327680 p (omega (arith, here.from)) (omega (arith, here.from, here.to, within, most, space.few))

-- none of the others has the row's pages
pub others-none : (s : Lists) (row : Row) (rest : List Row) (p : ℕ) → IsSpace s → s.from ≡ row ∷ rest → IsInRun (first_of_row row) (row_pages row) p → list_any (holds_page p) (s.in_use ++ rest) ≡ false
others-none s row rest p space is here =
    let apart = first-apart s row rest space is in
    let behind : AreBehind row.region 0 (s.in_use ++ rest) = λ k d within. inl (apart k d within) in
    none-there (s.in_use ++ rest) row.region 0 row.fill p (rest-filled s row rest space is) behind (omega (arith, (first-filled s row rest space is).most))
    (record { from = omega (arith, here.from); to = omega (arith, here.to) })

any-middle : (p : ℕ) (one : List Row) (row : Row) (rest : List Row) → list_any (holds_page p) (one ++ row ∷ rest) ≡ (holds_page p row || list_any (holds_page p) (one ++ rest))
any-middle p one row rest =
    list_any-append (holds_page p) one (row ∷ rest)
    ∙ swap (list_any (holds_page p) one) (holds_page p row) (list_any (holds_page p) rest)
    ∙ ap (λ (b : Bool). holds_page p row || b) (sym (list_any-append (holds_page p) one rest))
  where
    swap : (a b c : Bool) → (a || (b || c)) ≡ (b || (a || c))
    swap true true c = refl
    swap true false c = refl
    swap false b c = refl

-- what is mapped in the window once the first from region was released
pub pages-dropped : (old new : Memory) (t : ℕ) (s : Lists) (row : Row) (rest : List Row) → IsSpace s → s.from ≡ row ∷ rest → HasPages old t (filled s) → ReleasesRun old new t (first_of_row row) (row_pages row)
    → HasPages new t (s.in_use ++ rest)
pages-dropped old new t s row rest space is has run p window = elim (cases_Bool (holds_page p row)) [
  | inl held ↦
      let here = held-run row p held in
      ap is_some (run.gone p here) ∙ sym (others-none s row rest p space is here)
  | inr none ↦
      ap is_some (run.others t p (beside-row t t p row (inr none)))
      ∙ has p window
      ∙ ap (λ rows. list_any (holds_page p) (s.in_use ++ rows)) is
      ∙ any-middle p s.in_use row rest
      ∙ ap (λ (b : Bool). b || list_any (holds_page p) (s.in_use ++ rest)) none
]

pub row-mapped : (m : Memory) (t : ℕ) (s : Lists) (row : Row) (rest : List Row) (p : ℕ) → IsSpace s → s.from ≡ row ∷ rest → HasPages m t (filled s) → IsInRun (first_of_row row) (row_pages row) p → is_mapped m t p ≡ true
row-mapped m t s row rest p space is has here =
    has p (row-window s row rest p space is here)
    ∙ ap (λ rows. list_any (holds_page p) (s.in_use ++ rows)) is
    ∙ any-middle p s.in_use row rest
    ∙ or_left (holds_page p row) (list_any (holds_page p) (s.in_use ++ rest)) (run-held row p here)

framed : (o : Option Page) → is_some o ≡ true → (f : ℕ) × (option_map (λ (page : Page). page.frame) o ≡ Some f)
framed None is = absurd (false≢true is)
framed (Some page) is = (page.frame, refl)

-- a page that stays has its frame alone still
alone-kept : (old new : Memory) (t first n p : ℕ) → ReleasesRun old new t first n → page_at new t p ≡ page_at old t p → is_mapped old t p ≡ true → HasOneSharer old t p → HasOneSharer new t p
alone-kept old new t first n p run stays mapped one u q same =
    let here : frame_at new t p ≡ frame_at old t p = frame-same old new t p stays in
    let f = framed (page_at old t p) mapped in
    elim (side t first n u q) [
      | inl apart ↦ one u q (sym (frame-same old new u q (run.others u q apart)) ∙ same ∙ here)
      | inr at ↦ absurd (frame-none new t q f.0 (run.gone q at.1) (ap (λ k. frame_at new k q) (sym at.0) ∙ same ∙ here ∙ f.1))
    ]

pub alone-dropped : (old new : Memory) (t : ℕ) (s : Lists) (row : Row) (rest : List Row) → IsSpace s → s.from ≡ row ∷ rest → HasPages old t (filled s) → AreAlone old t s.from → ReleasesRun old new t (first_of_row row) (row_pages row)
    → ((p : ℕ) → list_any (holds_page p) rest ≡ true → is_in Regions p ≡ true) → AreAlone new t rest
alone-dropped old new t s row rest space is has alone run window p there =
    let any : list_any (holds_page p) (row ∷ rest) ≡ true = or_right (holds_page p row) (list_any (holds_page p) rest) there in
    let all : list_any (holds_page p) (s.in_use ++ rest) ≡ true = list_any-append (holds_page p) s.in_use rest ∙ or_right (list_any (holds_page p) s.in_use) (list_any (holds_page p) rest) there in
    let mapped : is_mapped old t p ≡ true =
    has p (window p there) ∙ ap (λ rows. list_any (holds_page p) (s.in_use ++ rows)) is ∙ any-middle p s.in_use row rest ∙ or_right (holds_page p row) (list_any (holds_page p) (s.in_use ++ rest)) all in
    elim (cases_Bool (holds_page p row)) [
      | inl held ↦ absurd (false≢true (sym (others-none s row rest p space is (held-run row p held)) ∙ all))
      | inr none ↦
          alone-kept old new t (first_of_row row) (row_pages row) p run (run.others t p (beside-row t t p row (inr none))) mapped
          (alone p (subst (λ rows. list_any (holds_page p) rows ≡ true) (sym is) any))
    ]

-- the pages of a space's from regions are in the window
held-window : (rows : List Row) (count p : ℕ) → All IsFilled rows → All (λ n. n < count) (map (λ (row : Row). row.region) rows) → count ≤ 1024 → list_any (holds_page p) rows ≡ true → is_in Regions p ≡ true
held-window [] count p all within few there = absurd (false≢true there)
held-window (row ∷ rest) count p all within few there = elim (or_cases (holds_page p row) (list_any (holds_page p) rest) there) [
  | inl held ↦
      let here = held-run row p held in
      let most = (All-head IsFilled row rest all).most in
      let region = All-head (λ n. n < count) row.region (map (λ (row : Row). row.region) rest) within in
      inside 262144 327680 p (omega (arith, here.from)) (omega (arith, here.from, here.to, region, most, few))
  | inr later ↦ held-window rest count p (All-tail IsFilled row rest all) (All-tail (λ n. n < count) row.region (map (λ (row : Row). row.region) rest) within) few later
]

pub from-window : (s : Lists) (p : ℕ) → IsSpace s → list_any (holds_page p) s.from ≡ true → is_in Regions p ≡ true
from-window s p space there =
    let regions = λ (rows : List Row). map (λ (row : Row). row.region) rows in
    held-window s.from s.count p (all-right IsFilled s.in_use s.from space.filled)
    (all-right (λ n. n < s.count) (regions s.in_use) (regions s.from) (all-left (λ n. n < s.count) (regions s.in_use ++ regions s.from) s.free space.lists.within)) space.few there

-- the space without its first from region
pub space-dropped : (s new : Lists) (row : Row) (rest : List Row) → IsSpace s → s.from ≡ row ∷ rest → IsLists new → new ≡ record s { from = rest; free = row.region ∷ s.free } → IsSpace new
space-dropped s new row rest space is lists frees =
    let count : new.count ≡ s.count = ap (λ (it : Lists). it.count) frees in
    let rows : filled new ≡ s.in_use ++ rest = ap filled frees in
    record {
      lists = lists;
      even = ap (λ n. n % 2) count ∙ space.even;
      some = omega (arith, space.some, count);
      few = omega (arith, space.few, count);
      filled = subst (All IsFilled) (sym rows) (rest-filled s row rest space is);
    }

pub sum-dropped : (s new : Lists) (row : Row) (rest : List Row) → s.from ≡ row ∷ rest → new ≡ record s { from = rest; free = row.region ∷ s.free } → page_sum (filled new) + row_pages row ≡ page_sum (filled s)
sum-dropped s new row rest is frees =
    let rows : filled new ≡ s.in_use ++ rest = ap filled frees in
    let all : filled s ≡ s.in_use ++ row ∷ rest = ap (λ it. s.in_use ++ it) is in
    omega (arith, ap page_sum rows, ap page_sum all, page_sum-append s.in_use rest, page_sum-append s.in_use (row ∷ rest), page_sum-cons row rest)

pub first-cons : (rows : List Row) (row : Row) → Some row ≡ first_of rows → (rest : List Row) × (rows ≡ row ∷ rest)
first-cons [] row is = absurd (none-some row (sym is))
first-cons (first ∷ rest) row is = (rest, cc)

pub none-first : (rows : List Row) → None ≡ first_of rows → rows ≡ []
none-first [] is = refl
none-first (row ∷ rest) is = absurd (none-some row is)

-- the run in the code's numbers
pub run-of-row : (old new : Memory) (t base count : ℕ) (row : Row) → base ≡ base_of row.region → count ≡ pages_up_to row.fill → ReleasesRun old new t (base / 4096) count → ReleasesRun old new t (first_of_row row) (row_pages row)
run-of-row old new t base count row start pages run =
    subst (λ (n : ℕ). ReleasesRun old new t (n / 4096) (row_pages row)) start (subst (ReleasesRun old new t (base / 4096)) pages run)

pub page-of-row : (base count p : ℕ) (row : Row) → base ≡ base_of row.region → count ≡ pages_up_to row.fill → IsInRun (base / 4096) count p → IsInRun (first_of_row row) (row_pages row) p
page-of-row base count p row start pages here =
    subst (λ (n : ℕ). IsInRun (n / 4096) (row_pages row) p) start (subst (λ (n : ℕ). IsInRun (base / 4096) n p) pages here)

pub one-more : (all done from : List Row) (row : Row) (rest : List Row) → all ≡ done ++ from → from ≡ row ∷ rest → all ≡ (done ++ row ∷ []) ++ rest
one-more all done from row rest is first = is ∙ ap (λ rows. done ++ rows) first ∙ sym (append_assoc done (row ∷ []) rest)
