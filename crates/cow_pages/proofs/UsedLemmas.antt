-- How many frames and leaves are used.
use Rattle.std.proofs.Common.{◌≡◌, ℕ, zero, suc, ◌+◌, ◌<◌, ◌≤◌, Bool, false, cond, List, [], ◌∷◌, length, get_or, Option, Some, None, refl, sym, ap, ◌∙◌, inl, inr, arith, eqb, ◌||◌, Contains}
use Rattle.std.specs.Prelude.{nat_eq, ◌↔◌}
use Rattle.std.specs.List.{list_any, IsDistinct, AllByRecursion}
use Rattle.std.proofs.lemmas.Bool.{cases_eq, cases_lt, eq-eqb, eqb-false, ne_eqb, cond-true, cond-false}
use Rattle.std.proofs.lemmas.Option.{none-some, same_Some}
use Rattle.cow_pages.specs.Memory.{Memory, frames_of, row_leaves, leaves_of, used_frames, used_leaves, distinct_count, IsSound}
use Rattle.cow_pages.specs.Laws.{AreUsed, AreUsedLeaves, HasEntry}
use Rattle.cow_pages.proofs.HolderLemmas.{holders, count-step, holders-yes, holders-no, holders-append, absent, absent-step, distinct_and_absent, all_below, entry_with, holders-entries}

-- lists with the same members have as many different ones
pub absent-same : (xs ys : List ℕ) (k n : ℕ) → ((f : ℕ) → 1 ≤ holders xs f → 1 ≤ holders ys f) → ((f : ℕ) → 1 ≤ holders ys f → 1 ≤ holders xs f) → absent xs k n ≡ absent ys k n
absent-same xs ys k zero one other = refl
absent-same xs ys k (suc n) one other =
    let rest = absent-same xs ys (k + 1) n one other in
    let head : ◌≡◌ {A = ℕ} (cond (eqb (holders xs k) 0) 1 0) (cond (eqb (holders ys k) 0) 1 0) =
    elim (cases_eq (holders xs k) 0) [
      | inl none ↦
          cond-true (eqb (holders xs k) 0) 1 0 (eq-eqb _ _ none)
          ∙ sym (cond-true (eqb (holders ys k) 0) 1 0 (eq-eqb _ _ (no_holder ys k (λ some. omega (arith, none, other k some)))))
      | inr some ↦
          cond-false (eqb (holders xs k) 0) 1 0 (ne_eqb _ _ some)
          ∙ sym (cond-false (eqb (holders ys k) 0) 1 0 (ne_eqb _ _ (λ none. omega (arith, none, one k (omega arith)))))
    ] in
    omega (arith, rest, head, absent-step xs k n, absent-step ys k n)
  where
    no_holder : (zs : List ℕ) (f : ℕ) → (1 ≤ holders zs f → ⊥) → holders zs f ≡ 0
    no_holder zs f not = elim (cases_lt 0 (holders zs f)) [
      | inl some ↦ absurd (not (omega arith))
      | inr none ↦ omega arith
    ]

-- no number of a list without repeats is one of the later ones
pub none_later : (x : ℕ) (xs : List ℕ) → AllByRecursion (λ y. eqb x y ≡ false) xs → list_any (λ y. eqb y x) xs ≡ false
none_later x [] apart = refl
none_later x (y ∷ ys) apart =
    ap (λ (b : Bool). b || list_any (λ z. eqb z x) ys) (ne_eqb y x (λ same. eqb-false x y apart.0 (sym same))) ∙ none_later x ys apart.1

pub distinct-length : (xs : List ℕ) → IsDistinct nat_eq xs → distinct_count xs ≡ length xs
unfolding IsDistinct
distinct-length [] differ = refl
distinct-length (x ∷ xs) differ =
    let head : ◌≡◌ {A = ℕ} (cond (list_any (λ y. eqb y x) xs) 0 1) 1 = cond-false (list_any (λ y. eqb y x) xs) 0 1 (none_later x xs differ.0) in
    omega (arith, head, distinct-length xs differ.1)

-- a member is held
pub holders-member : (xs : List ℕ) (k f : ℕ) → k < length xs → get_or xs k f ≡ f → 1 ≤ holders xs f
holders-member [] k f within is = absurd (omega (arith, within))
holders-member (x ∷ xs) zero f within is = omega (arith, holders-yes xs x f is)
holders-member (x ∷ xs) (suc k) f within is = omega (arith, holders-member xs k f (omega arith) is, count-step (λ y. eqb y f) x xs)

pub member-holders : (xs : List ℕ) (f : ℕ) → 1 ≤ holders xs f → Contains xs f
member-holders [] f some = absurd (omega (arith, some))
member-holders (x ∷ xs) f some =
    elim (cases_eq x f) [
      | inl same ↦ (0, omega arith, same)
      | inr apart ↦
          let later = member-holders xs f (omega (arith, some, holders-no xs x f apart)) in
          (suc later.0, omega (arith, later.1), later.2)
    ]

-- above each number of a list
abbrev pub bound_of : List ℕ → ℕ
bound_of [] = 0
bound_of (x ∷ xs) = x + 1 + bound_of xs

pub below_bound : (xs : List ℕ) (f : ℕ) → 1 ≤ holders xs f → f < bound_of xs
below_bound [] f some = absurd (omega (arith, some))
below_bound (x ∷ xs) f some =
    elim (cases_eq x f) [
      | inl same ↦ omega (arith, same)
      | inr apart ↦ omega (arith, below_bound xs f (omega (arith, some, holders-no xs x f apart)))
    ]

-- the different numbers of a list are as many as there are in a list of the same members without repeats
pub members-length : (all xs : List ℕ) → ((f : ℕ) → 1 ≤ holders all f → Contains xs f) → ((f : ℕ) → Contains xs f → 1 ≤ holders all f) → IsDistinct nat_eq xs
    → distinct_count all ≡ length xs
members-length all xs one other differ =
    let n = bound_of all in
    let there : (f : ℕ) → 1 ≤ holders all f → 1 ≤ holders xs f = λ f some. let c = one f some in holders-member xs c.0 f c.1 c.2 in
    let back : (f : ℕ) → 1 ≤ holders xs f → 1 ≤ holders all f = λ f some. other f (member-holders xs f some) in
    let a = distinct_and_absent all n (all_below n all (below_bound all)) in
    let b = distinct_and_absent xs n (all_below n xs (λ f some. below_bound all f (back f some))) in
    omega (arith, a, b, absent-same all xs 0 n there back, distinct-length xs differ)

pub used-length : (m : Memory) (fs : List ℕ) → IsSound m → AreUsed m fs → used_frames m ≡ length fs
used-length m fs sound used = members-length (frames_of m.tables) fs
    (λ f some. let e = entry_with m.tables f sound.rising some in used.all e.table e.page.number f e.page.is)
    (λ f among. let e = used.used f among in holders-entries m.tables e.0 e.1 f e.2)
    used.differ

-- memories whose entries have the same frames use as many
pub used-same : (old new : Memory) → IsSound old → IsSound new → ((f : ℕ) → HasEntry old f ↔ HasEntry new f) → used_frames new ≡ used_frames old
used-same old new sound also same =
    let xs = frames_of old.tables in
    let ys = frames_of new.tables in
    let n = bound_of xs + bound_of ys in
    let there : (f : ℕ) → 1 ≤ holders xs f → 1 ≤ holders ys f = λ f some.
    let e = entry_with old.tables f sound.rising some in
    let k = (same f).0 (e.table, e.page.number, e.page.is) in
    holders-entries new.tables k.0 k.1 f k.2 in
    let back : (f : ℕ) → 1 ≤ holders ys f → 1 ≤ holders xs f = λ f some.
    let e = entry_with new.tables f also.rising some in
    let k = (same f).1 (e.table, e.page.number, e.page.is) in
    holders-entries old.tables k.0 k.1 f k.2 in
    let a = distinct_and_absent xs n (all_below n xs (λ f some. omega (arith, below_bound xs f some))) in
    let b = distinct_and_absent ys n (all_below n ys (λ f some. omega (arith, below_bound ys f some))) in
    omega (arith, a, b, absent-same xs ys 0 n there back)

-- LEAVES

pub holders-place : (row : List (Option ℕ)) (i l : ℕ) → get_or row i None ≡ Some l → 1 ≤ holders (row_leaves row) l
holders-place [] i l is = absurd (none-some l is)
holders-place (None ∷ rest) zero l is = absurd (none-some l is)
holders-place (Some k ∷ rest) zero l is = omega (arith, holders-yes (row_leaves rest) k l (same_Some k l is))
holders-place (None ∷ rest) (suc i) l is = holders-place rest i l is
holders-place (Some k ∷ rest) (suc i) l is = omega (arith, holders-place rest i l is, count-step (λ x. eqb x l) k (row_leaves rest))

-- a leaf of a table is one of all
pub holders-places : (rows : List (List (Option ℕ))) (t i l : ℕ) → get_or (get_or rows t []) i None ≡ Some l → 1 ≤ holders (leaves_of rows) l
holders-places [] t i l is = absurd (none-some l is)
holders-places (row ∷ rest) zero i l is = omega (arith, holders-place row i l is, holders-append (row_leaves row) (leaves_of rest) l)
holders-places (row ∷ rest) (suc t) i l is = omega (arith, holders-places rest t i l is, holders-append (row_leaves row) (leaves_of rest) l)

pub place_with : (row : List (Option ℕ)) (l : ℕ) → 1 ≤ holders (row_leaves row) l → (i : ℕ) × (get_or row i None ≡ Some l)
place_with [] l some = absurd (omega (arith, some))
place_with (None ∷ rest) l some = let later = place_with rest l some in (suc later.0, later.1)
place_with (Some k ∷ rest) l some =
    elim (cases_eq k l) [
      | inl same ↦ (0, ap Some same)
      | inr apart ↦ let later = place_with rest l (omega (arith, some, holders-no (row_leaves rest) k l apart)) in (suc later.0, later.1)
    ]

-- a table and an index with the leaf
pub leaf_with : (rows : List (List (Option ℕ))) (l : ℕ) → 1 ≤ holders (leaves_of rows) l → (t : ℕ) × (i : ℕ) × (get_or (get_or rows t []) i None ≡ Some l)
leaf_with [] l some = absurd (omega (arith, some))
leaf_with (row ∷ rest) l some =
    elim (cases_lt 0 (holders (row_leaves row) l)) [
      | inl here ↦ let place = place_with row l (omega arith) in (0, place.0, place.1)
      | inr none ↦
          let later = leaf_with rest l (omega (arith, some, none, holders-append (row_leaves row) (leaves_of rest) l)) in
          (suc later.0, later.1, later.2)
    ]

pub used_leaves-length : (m : Memory) (ls : List ℕ) → AreUsedLeaves m ls → used_leaves m ≡ length ls
used_leaves-length m ls used = members-length (leaves_of m.leaves) ls
    (λ l some. let e = leaf_with m.leaves l some in used.all e.0 e.1 l e.2)
    (λ l among. let e = used.used l among in holders-places m.leaves e.0 e.1 l e.2)
    used.differ
