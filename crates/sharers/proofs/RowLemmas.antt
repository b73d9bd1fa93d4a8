-- A change of one row.
use Rattle.std.proofs.Common.{◌≡◌, ◌≢◌, ℕ, zero, suc, ◌+◌, ◌<◌, ◌≤◌, Bool, true, false, cond, List, [], ◌∷◌, ◌++◌, map, length, get_or, set, refl, sym, ap, subst, ◌∙◌, inl, inr, arith, count_by, eqb}
use Rattle.std.proofs.lemmas.List.{get_or-map, get_or_past, length-map, length-set, map-set, get_or-set_same, get_or-set_other, get_or_append_left, map-append}
use Rattle.std.proofs.lemmas.List.Sums.{sum_by-cons}
use Rattle.std.proofs.lemmas.Bool.{cases_eq, ne_eqb, cond-false}
use Rattle.sharers.specs.declared.rows.Row.{Row}
use Rattle.sharers.specs.Rows.{holders_of, next_of, rank_of}

-- what a field of a row is after it was replaced
pub field_here : {X : Type 0} (field : Row → X) (rows : List Row) (f : ℕ) (y : Row) (d : X) → f < length rows → get_or (map field (set rows f y)) f d ≡ field y
field_here {X} field rows f y d within =
    ap (λ (l : List X). get_or l f d) (map-set field rows f y)
    ∙ get_or-set_same (map field rows) f (field y) d (omega (arith, length-map rows field))

pub field_other : {X : Type 0} (field : Row → X) (rows : List Row) (f g : ℕ) (y : Row) (d : X) → g ≢ f → get_or (map field (set rows f y)) g d ≡ get_or (map field rows) g d
field_other {X} field rows f g y d apart =
    ap (λ (l : List X). get_or l g d) (map-set field rows f y)
    ∙ get_or-set_other (map field rows) f g (field y) d apart

pub field_was : {X : Type 0} (field : Row → X) (rows : List Row) (f : ℕ) (x : Row) (d : X) → f < length rows → x ≡ get_or rows f x → get_or (map field rows) f d ≡ field x
field_was field rows f x d within is = get_or-map field rows f x d within ∙ ap field (sym is)

-- a field of a row that stands past the end
pub field_past : {X : Type 0} (field : Row → X) (rows : List Row) (f : ℕ) (d : X) → length rows ≤ f → get_or (map field rows) f d ≡ d
field_past field rows f d past = get_or_past (map field rows) f d (omega (arith, length-map rows field))

-- a field before the end of a longer list
pub field_before : {X : Type 0} (field : Row → X) (rows more : List Row) (f : ℕ) (d : X) → f < length rows → get_or (map field (rows ++ more)) f d ≡ get_or (map field rows) f d
field_before {X} field rows more f d within =
    ap (λ (l : List X). get_or l f d) (map-append field rows more)
    ∙ get_or_append_left (map field rows) (map field more) d f (omega (arith, length-map rows field))

-- the field of the row that joined
pub field_joined : {X : Type 0} (field : Row → X) (rows : List Row) (y : Row) (d : X) → get_or (map field (rows ++ y ∷ [])) (length rows) d ≡ field y
field_joined field [] y d = refl
field_joined field (x ∷ rest) y d = field_joined field rest y d

-- 1 where the row has no sharer
abbrev pub one_free : Row → ℕ
one_free it = cond (eqb it.holders 0) 1 0

abbrev pub free_count : List Row → ℕ
free_count rows = count_by (λ (it : Row). eqb it.holders 0) rows

pub free-cons : (x : Row) (xs : List Row) → free_count (x ∷ xs) ≡ one_free x + free_count xs
free-cons x xs = sum_by-cons one_free x xs

pub free-set : (rows : List Row) (f : ℕ) (x y : Row) → f < length rows → x ≡ get_or rows f x → free_count (set rows f y) + one_free x ≡ free_count rows + one_free y
free-set [] f x y within is = absurd (omega arith)
free-set (z ∷ rest) zero x y within is = omega (arith, free-cons y rest, free-cons z rest, ap one_free is)
free-set (z ∷ rest) (suc f) x y within is =
    omega (arith, free-cons z rest, free-cons z (set rest f y), free-set rest f x y (omega arith) is)

-- as many are free where each has as many sharers
pub free-same : (old new : List Row) → length new ≡ length old → ((f : ℕ) → holders_of new f ≡ holders_of old f) → free_count new ≡ free_count old
free-same [] [] len same = refl
free-same [] (y ∷ ys) len same = absurd (omega arith)
free-same (x ∷ xs) [] len same = absurd (omega arith)
free-same (x ∷ xs) (y ∷ ys) len same =
    omega (arith, free-cons x xs, free-cons y ys, ap {B = ℕ} (λ n. cond (eqb n 0) 1 0) (same 0), free-same xs ys (omega arith) (λ f. same (suc f)))

pub one_free-le : (x : Row) → one_free x ≤ 1
one_free-le x = at_most (eqb x.holders 0)
  where
    at_most : (b : Bool) → cond {A = ℕ} b 1 0 ≤ 1
    at_most true = omega arith
    at_most false = omega arith

-- rows of which one has a sharer are not all free
pub free-le : (rows : List Row) → free_count rows ≤ length rows
free-le [] = omega arith
free-le (x ∷ xs) = omega (arith, free-cons x xs, one_free-le x, free-le xs)

pub free-lt : (rows : List Row) (f : ℕ) → f < length rows → 0 < holders_of rows f → free_count rows < length rows
free-lt [] f within held = absurd (omega arith)
free-lt (x ∷ xs) zero within held =
    omega (arith, free-cons x xs, free-le xs, cond-false {A = ℕ} (eqb x.holders 0) 1 0 (ne_eqb x.holders 0 (λ none. omega arith)))
free-lt (x ∷ xs) (suc f) within held = omega (arith, free-cons x xs, one_free-le x, free-lt xs f (omega arith) held)

-- one row was put in the place of another
pub record Replaces (old new : List Row) (f : ℕ) (x y : Row) : Type 0 where
  pub within : f < length old
  pub len : length new ≡ length old
  pub holders_was : holders_of old f ≡ x.holders
  pub next_was : next_of old f ≡ x.next
  pub rank_was : rank_of old f ≡ x.rank
  pub holders_here : holders_of new f ≡ y.holders
  pub next_here : next_of new f ≡ y.next
  pub rank_here : rank_of new f ≡ y.rank
  pub holders : (g : ℕ) → g ≢ f → holders_of new g ≡ holders_of old g
  pub next : (g : ℕ) → g ≢ f → next_of new g ≡ next_of old g
  pub rank : (g : ℕ) → g ≢ f → rank_of new g ≡ rank_of old g
  pub free : free_count new + one_free x ≡ free_count old + one_free y

pub replaces : (rows : List Row) (f : ℕ) (x y : Row) → f < length rows → x ≡ get_or rows f x → Replaces rows (set rows f y) f x y
replaces rows f x y within is = record {
  within = within;
  len = length-set rows f y;
  holders_was = field_was (λ it. it.holders) rows f x 0 within is;
  next_was = field_was (λ it. it.next) rows f x 0 within is;
  rank_was = field_was (λ it. it.rank) rows f x 0 within is;
  holders_here = field_here (λ it. it.holders) rows f y 0 within;
  next_here = field_here (λ it. it.next) rows f y 0 within;
  rank_here = field_here (λ it. it.rank) rows f y 0 within;
  holders = λ g. field_other (λ it. it.holders) rows f g y 0;
  next = λ g. field_other (λ it. it.next) rows f g y 0;
  rank = λ g. field_other (λ it. it.rank) rows f g y 0;
  free = free-set rows f x y within is;
}

-- a fact at one number and at each other holds at all
pub at_all : (P : ℕ → Type 0) (f : ℕ) → P f → ((g : ℕ) → g ≢ f → P g) → (g : ℕ) → P g
at_all P f here others g = elim (cases_eq g f) [ inl same ↦ subst P (sym same) here | inr apart ↦ others g apart ]
