-- Lists of numbers: how often one is in a list, and how many are not.
use Rattle.std.proofs.Common.{◌≡◌, ◌≢◌, ℕ, zero, suc, ◌+◌, ◌<◌, ◌≤◌, Bool, cond, List, [], ◌∷◌, ◌++◌, map, get_or, Some, None, Option, count_by, refl, sym, ap, subst, ◌∙◌, inl, inr, arith, eqb, ◌||◌, zero-add}
use Rattle.std.specs.Prelude.{option_map}
use Rattle.std.proofs.lemmas.List.Sums.{sum_by-append}
use Rattle.std.specs.List.{list_any}
use Rattle.std.proofs.lemmas.Bool.{cases_eq, cases_lt, eq-eqb, ne_eqb, cond-true, cond-false, leb-true, or_left}
use Rattle.std.proofs.lemmas.Option.{none-some, same_Some}
use Rattle.cow_pages.specs.Memory.{Page, Table, page_in, pages_of, frames_of, distinct_count, RisesFrom}
use Rattle.cow_pages.specs.View.{numbers_from}

-- how often a number is in a list
abbrev pub holders : List ℕ → ℕ → ℕ
holders xs f = count_by (λ x. eqb x f) xs

-- one step of a count
pub count-step : {X : Type 0} (p : X → Bool) (x : X) (xs : List X) → count_by p (x ∷ xs) ≡ cond (p x) 1 0 + count_by p xs
count-step p x xs = sum_by-append _ (x ∷ []) xs ∙ ap (λ n. n + count_by p xs) (zero-add (cond (p x) 1 0))

pub holders-yes : (xs : List ℕ) (x f : ℕ) → x ≡ f → holders (x ∷ xs) f ≡ 1 + holders xs f
holders-yes xs x f same = count-step (λ y. eqb y f) x xs ∙ ap (λ n. n + holders xs f) (cond-true {A = ℕ} (eqb x f) 1 0 (eq-eqb x f same))

pub holders-no : (xs : List ℕ) (x f : ℕ) → x ≢ f → holders (x ∷ xs) f ≡ holders xs f
holders-no xs x f apart = count-step (λ y. eqb y f) x xs ∙ ap (λ n. n + holders xs f) (cond-false {A = ℕ} (eqb x f) 1 0 (ne_eqb x f apart)) ∙ zero-add (holders xs f)

pub holders-append : (xs ys : List ℕ) (f : ℕ) → holders (xs ++ ys) f ≡ holders xs f + holders ys f
holders-append xs ys f = sum_by-append _ xs ys

-- how many numbers below n from k on are not in the list
abbrev pub absent : List ℕ → ℕ → ℕ → ℕ
absent xs k n = count_by (λ i. eqb (holders xs i) 0) (numbers_from k n)

pub absent-step : (xs : List ℕ) (k n : ℕ) → absent xs k (suc n) ≡ cond (eqb (holders xs k) 0) 1 0 + absent xs (k + 1) n
absent-step xs k n = count-step (λ i. eqb (holders xs i) 0) k (numbers_from (k + 1) n)

-- of no list each number is absent
pub absent_none : (k n : ℕ) → absent [] k n ≡ n
absent_none k zero = refl
absent_none k (suc n) = omega (arith, absent_none (k + 1) n, count-step (λ i. eqb (holders [] i) 0) k (numbers_from (k + 1) n))

-- a number below these changes nothing
pub absent_below : (xs : List ℕ) (x k n : ℕ) → x < k → absent (x ∷ xs) k n ≡ absent xs k n
absent_below xs x k zero below = refl
absent_below xs x k (suc n) below =
    let head : holders (x ∷ xs) k ≡ holders xs k = holders-no xs x k (λ same. omega arith) in
    absent-step (x ∷ xs) k n
    ∙ ap (λ h. cond (eqb h 0) 1 0 + absent (x ∷ xs) (k + 1) n) head
    ∙ ap (λ r. cond (eqb (holders xs k) 0) 1 0 + r) (absent_below xs x (k + 1) n (omega arith))
    ∙ sym (absent-step xs k n)

-- a number that joins takes one from the absent, if it was
pub absent_at : (xs : List ℕ) (x k n : ℕ) → k ≤ x → x < k + n → absent (x ∷ xs) k n + cond (eqb (holders xs x) 0) 1 0 ≡ absent xs k n
absent_at xs x k zero above below = absurd (omega arith)
absent_at xs x k (suc n) above below =
    elim (cases_eq x k) [
      | inl same ↦
          let some : ◌≡◌ {A = ℕ} (cond (eqb (holders (x ∷ xs) k) 0) 1 0) 0 = cond-false (eqb (holders (x ∷ xs) k) 0) 1 0 (ne_eqb _ _ (λ none. omega (arith, holders-yes xs x k same))) in
          let at_k = ap {B = ℕ} (λ i. cond (eqb (holders xs i) 0) 1 0) same in
          omega (arith, some, at_k, absent-step (x ∷ xs) k n, absent-step xs k n, absent_below xs x (k + 1) n (omega arith))
      | inr other ↦
          let head = ap {B = ℕ} (λ h. cond (eqb h 0) 1 0) (holders-no xs x k other) in
          omega (arith, head, absent-step (x ∷ xs) k n, absent-step xs k n, absent_at xs x (k + 1) n (omega arith) (omega arith))
    ]

-- a number is in a list where it has a holder
pub any_holders : (xs : List ℕ) (x : ℕ) → ◌≡◌ {A = ℕ} (cond (list_any (λ y. eqb y x) xs) 0 1) (cond (eqb (holders xs x) 0) 1 0)
any_holders [] x = refl
any_holders (y ∷ ys) x =
    elim (cases_eq y x) [
      | inl same ↦
          cond-true (eqb y x || list_any (λ z. eqb z x) ys) 0 1 (or_left (eqb y x) _ (eq-eqb y x same))
          ∙ sym (cond-false (eqb (holders (y ∷ ys) x) 0) 1 0 (ne_eqb _ _ (λ none. omega (arith, holders-yes ys y x same))))
      | inr other ↦
          ap (λ (b : Bool). cond (b || list_any (λ z. eqb z x) ys) 0 1) (ne_eqb y x other)
          ∙ any_holders ys x ∙ ap (λ h. cond (eqb h 0) 1 0) (sym (holders-no ys y x other))
    ]

-- each of these is below the bound
abbrev pub AreBelow : ℕ → List ℕ → Type 0
AreBelow n [] = Unit {0}
AreBelow n (x ∷ xs) = (x < n) × AreBelow n xs

pub AreBelow-append : (n : ℕ) (xs ys : List ℕ) → AreBelow n xs → AreBelow n ys → AreBelow n (xs ++ ys)
AreBelow-append n [] ys p q = q
AreBelow-append n (x ∷ xs) ys p q = (p.0, AreBelow-append n xs ys p.1 q)

-- the different numbers of a list and the absent ones are all
pub distinct_and_absent : (xs : List ℕ) (n : ℕ) → AreBelow n xs → distinct_count xs + absent xs 0 n ≡ n
distinct_and_absent [] n below = rw zero-add (absent_none 0 n)
distinct_and_absent (x ∷ xs) n below =
    omega (arith, distinct_and_absent xs n below.1, absent_at xs x 0 n (omega arith) (omega (arith, below.0)), any_holders xs x)

pub page_in-below : (xs : Table) (k p : ℕ) → RisesFrom k xs → p < k → page_in xs p ≡ None
page_in-below [] k p rises below = refl
page_in-below ((q, page) ∷ rest) k p rises below =
    let above = leb-true k q rises.0 in
    cond-false (eqb q p) _ _ (ne_eqb _ _ (λ same. omega arith)) ∙ page_in-below rest (q + 1) p rises.1 (omega arith)

abbrev pub frame_list : Table → List ℕ
frame_list pages = map (λ (it : ℕ × Page). it.1.frame) pages

-- a page's frame is one of the table's
pub holders-page : (xs : Table) (p : ℕ) (page : Page) → page_in xs p ≡ Some page → 1 ≤ holders (frame_list xs) page.frame
holders-page [] p page is = absurd (none-some page is)
holders-page ((q, first) ∷ rest) p page is =
    elim (cases_eq q p) [
      | inl same ↦
          let it = same_Some first page (sym (cond-true (eqb q p) (Some first) (page_in rest p) (eq-eqb q p same)) ∙ is) in
          omega (arith, holders-yes (frame_list rest) first.frame page.frame (ap (λ (page : Page). page.frame) it))
      | inr apart ↦
          let later = holders-page rest p page (sym (cond-false (eqb q p) (Some first) (page_in rest p) (ne_eqb q p apart)) ∙ is) in
          omega (arith, later, count-step (λ x. eqb x page.frame) first.frame (frame_list rest))
    ]

pub holders-option : (xs : Table) (p f : ℕ) → option_map (λ (page : Page). page.frame) (page_in xs p) ≡ Some f → 1 ≤ holders (frame_list xs) f
holders-option xs p f is = by_page (page_in xs p) refl is
  where
    by_page : (o : Option Page) → page_in xs p ≡ o → option_map (λ (page : Page). page.frame) o ≡ Some f → 1 ≤ holders (frame_list xs) f
    by_page None at is = absurd (none-some f is)
    by_page (Some page) at is = subst (λ n. 1 ≤ holders (frame_list xs) n) (same_Some page.frame f is) (holders-page xs p page at)

-- the frame of an entry is one of all
pub holders-entries : (tables : List (Option Table)) (t p f : ℕ) → option_map (λ (page : Page). page.frame) (page_in (pages_of (get_or tables t None)) p) ≡ Some f → 1 ≤ holders (frames_of tables) f
holders-entries [] t p f is = absurd (none-some f is)
holders-entries (table ∷ rest) zero p f is = omega (arith, holders-option (pages_of table) p f is, holders-append (frame_list (pages_of table)) (frames_of rest) f)
holders-entries (table ∷ rest) (suc t) p f is = omega (arith, holders-entries rest t p f is, holders-append (frame_list (pages_of table)) (frames_of rest) f)

-- a page of the table with the frame
pub record PageWith (xs : Table) (f : ℕ) : Type 0 where
  pub number : ℕ
  pub is : option_map (λ (page : Page). page.frame) (page_in xs number) ≡ Some f

pub page_with : (xs : Table) (k f : ℕ) → RisesFrom k xs → 1 ≤ holders (frame_list xs) f → PageWith xs f
page_with [] k f rises some = absurd (omega (arith, some))
page_with ((q, first) ∷ rest) k f rises some =
    elim (cases_eq first.frame f) [
      | inl same ↦ record {
        number = q;
        is = ap (option_map (λ (page : Page). page.frame)) (cond-true (eqb q q) (Some first) (page_in rest q) (eq-eqb q q refl)) ∙ ap Some same;
      }
      | inr apart ↦
          let later = page_with rest (q + 1) f rises.1 (omega (arith, some, holders-no (frame_list rest) first.frame f apart)) in
          elim (cases_eq q later.number) [
            | inl equal ↦ absurd (none-some f (sym (ap (option_map (λ (page : Page). page.frame)) (page_in-below rest (q + 1) later.number rises.1 (omega arith))) ∙ later.is))
            | inr other ↦ record {
              number = later.number;
              is = ap (option_map (λ (page : Page). page.frame)) (cond-false (eqb q later.number) (Some first) (page_in rest later.number) (ne_eqb q later.number other)) ∙ later.is;
            }
          ]
    ]

-- a table and a page with the frame
pub record EntryWith (tables : List (Option Table)) (f : ℕ) : Type 0 where
  pub table : ℕ
  pub page : PageWith (pages_of (get_or tables table None)) f

pub entry_with : (tables : List (Option Table)) (f : ℕ) → ((t : ℕ) → RisesFrom 0 (pages_of (get_or tables t None))) → 1 ≤ holders (frames_of tables) f → EntryWith tables f
entry_with [] f rises some = absurd (omega (arith, some))
entry_with (table ∷ rest) f rises some =
    elim (cases_lt 0 (holders (frame_list (pages_of table)) f)) [
      | inl here ↦ record { table = 0; page = page_with (pages_of table) 0 f (rises 0) (omega arith) }
      | inr none ↦
          let later = entry_with rest f (λ t. rises (suc t)) (omega (arith, some, none, holders-append (frame_list (pages_of table)) (frames_of rest) f)) in
          record { table = suc later.table; page = later.page }
    ]

pub all_below : (n : ℕ) (xs : List ℕ) → ((f : ℕ) → 1 ≤ holders xs f → f < n) → AreBelow n xs
all_below n [] all = tt
all_below n (x ∷ xs) all =
    (all x (omega (arith, holders-yes xs x x refl)), all_below n xs (λ f some. all f (omega (arith, some, count-step (λ y. eqb y f) x xs))))
