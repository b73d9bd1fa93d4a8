-- Lists of numbers and tests: what std has no lemma on.
use Rattle.std.proofs.Common.{◌≡◌, ℕ, ◌<◌, Bool, true, false, cond, ◌||◌, ◌&&◌, ◌⊎◌, inl, inr, List, [], ◌∷◌, map, filter, length, nat_eq, refl, sym, ap, ◌∙◌, arith}
use Rattle.std.specs.List.{list_any, flat_map}
use Rattle.std.proofs.lemmas.Bool.{or_cases, or_left, or_right, and_parts, and_from, both_ways, eqb-true, false≢true}
use Rattle.std.proofs.lemmas.List.Folds.{list_any-append}
use Rattle.heap_graph.specs.Reach.{is_among}

module _ {X : Type 0} where
  -- each test that the element passes, some element of the list passes
  abbrev pub Stands : List X → X → Type 0
  Stands xs x = (q : X → Bool) → q x ≡ true → list_any q xs ≡ true

  -- an element that passes
  pub any_at : (p : X → Bool) (xs : List X) → list_any p xs ≡ true → (x : X) × (p x ≡ true) × Stands xs x
  any_at p [] h = absurd (false≢true h)
  any_at p (x ∷ xs) h =
      elim (or_cases (p x) (list_any p xs) h) [
        | inl here ↦ (x, here, λ q e. or_left (q x) (list_any q xs) e)
        | inr later ↦
            let found = any_at p xs later in
            (found.0, found.1, λ q e. or_right (q x) (list_any q xs) (found.2 q e))
      ]

  -- a test on what a filter keeps, on what a map gives, and on lists joined end to end
  pub any-filter : (p q : X → Bool) (xs : List X) → list_any p (filter q xs) ≡ list_any (λ x. q x && p x) xs
  any-filter p q [] = refl
  any-filter p q (x ∷ xs) =
      elim (q x) as (λ b. list_any p (cond b (x ∷ filter q xs) (filter q xs)) ≡ ((b && p x) || list_any (λ x. q x && p x) xs)) [
        | true ↦ ap (λ b. p x || b) (any-filter p q xs)
        | false ↦ any-filter p q xs
      ]

  pub any-map : {Y : Type 0} (f : Y → X) (p : X → Bool) (ys : List Y) → list_any p (map f ys) ≡ list_any (λ y. p (f y)) ys
  any-map f p [] = refl
  any-map f p (y ∷ ys) = ap (λ b. p (f y) || b) (any-map f p ys)

  pub any-flat_map : {Y : Type 0} (f : Y → List X) (p : X → Bool) (ys : List Y) → list_any p (flat_map f ys) ≡ list_any (λ y. list_any p (f y)) ys
  any-flat_map f p [] = refl
  any-flat_map f p (y ∷ ys) = list_any-append p (f y) (flat_map f ys) ∙ ap (λ b. list_any p (f y) || b) (any-flat_map f p ys)

  -- of two nested filters of one list, they keep the same or the inner one keeps fewer
  pub filters_nested : (p q : X → Bool) → ((x : X) → p x ≡ true → q x ≡ true) → (xs : List X) → (filter p xs ≡ filter q xs) ⊎ (length (filter p xs) < length (filter q xs))
  filters_nested p q inner [] = inl refl
  filters_nested p q inner (x ∷ xs) = by (p x) (q x) refl refl (filters_nested p q inner xs)
    where
      by : (b c : Bool) → p x ≡ b → q x ≡ c → (filter p xs ≡ filter q xs) ⊎ (length (filter p xs) < length (filter q xs)) →
          (cond b (x ∷ filter p xs) (filter p xs) ≡ cond c (x ∷ filter q xs) (filter q xs)) ⊎ (length (cond b (x ∷ filter p xs) (filter p xs)) < length (cond c (x ∷ filter q xs) (filter q xs)))
      by true true d e (inl same) = inl (ap (λ ys. x ∷ ys) same)
      by true true d e (inr fewer) = inr (omega arith)
      by true false d e rest = absurd (both_ways (q x) e (inner x d))
      by false true d e (inl same) = inr (omega (arith, ap length same))
      by false true d e (inr fewer) = inr (omega arith)
      by false false d e rest = rest

-- a number that passes a filter, and one that a filter passed
pub among-filter : (p : ℕ → Bool) (ns : List ℕ) (n : ℕ) → p n ≡ true → is_among ns n ≡ true → is_among (filter p ns) n ≡ true
among-filter p ns n passes h =
    let (m, same, stands) = any_at (nat_eq n) ns h in
    let e : n ≡ m = eqb-true n m same in
    any-filter (nat_eq n) p ns ∙ stands (λ x. p x && nat_eq n x) (and_from (p m) (nat_eq n m) (ap p (sym e) ∙ passes) same)

pub among_filter_at : (p : ℕ → Bool) (ns : List ℕ) (n : ℕ) → is_among (filter p ns) n ≡ true → (p n ≡ true) × (is_among ns n ≡ true)
among_filter_at p ns n h =
    let (m, both, stands) = any_at (λ x. p x && nat_eq n x) ns (sym (any-filter (nat_eq n) p ns) ∙ h) in
    let parts = and_parts (p m) (nat_eq n m) both in
    let e : n ≡ m = eqb-true n m parts.1 in
    (ap p e ∙ parts.0, stands (nat_eq n) parts.1)

module _ {X Y : Type 0} where
  -- a filter that each element passes, on a filtered and mapped list
  pub filter-passed : (keep : X → Bool) (f : X → Y) (p : Y → Bool) → ((x : X) → keep x ≡ true → p (f x) ≡ true) → (xs : List X) → filter p (map f (filter keep xs)) ≡ map f (filter keep xs)
  filter-passed keep f p passes [] = refl
  filter-passed keep f p passes (x ∷ xs) = by (keep x) refl (filter-passed keep f p passes xs)
    where
      by : (b : Bool) → keep x ≡ b → filter p (map f (filter keep xs)) ≡ map f (filter keep xs) →
          filter p (map f (cond b (x ∷ filter keep xs) (filter keep xs))) ≡ map f (cond b (x ∷ filter keep xs) (filter keep xs))
      by true d rest = ap (λ b. cond b (f x ∷ filter p (map f (filter keep xs))) (filter p (map f (filter keep xs)))) (passes x d) ∙ ap (λ ys. f x ∷ ys) rest
      by false d rest = rest

  -- to map after a filter is to filter after the map
  pub map-filter : (f : X → Y) (p : Y → Bool) (xs : List X) → map f (filter (λ x. p (f x)) xs) ≡ filter p (map f xs)
  map-filter f p [] = refl
  map-filter f p (x ∷ xs) =
      let rest = map-filter f p xs in
      elim (p (f x)) as (λ b. map f (cond b (x ∷ filter (λ x. p (f x)) xs) (filter (λ x. p (f x)) xs)) ≡ cond b (f x ∷ filter p (map f xs)) (filter p (map f xs))) [
        | true ↦ ap (λ ys. f x ∷ ys) rest
        | false ↦ rest
      ]

-- a filter behind one that passes all that it passes
pub filter-filter : {X : Type 0} (p q : X → Bool) → ((x : X) → q x ≡ true → p x ≡ true) → (xs : List X) → filter q (filter p xs) ≡ filter q xs
filter-filter p q inner [] = refl
filter-filter p q inner (x ∷ xs) = by (p x) (q x) refl refl (filter-filter p q inner xs)
  where
    by : (b c : Bool) → p x ≡ b → q x ≡ c → filter q (filter p xs) ≡ filter q xs → filter q (cond b (x ∷ filter p xs) (filter p xs)) ≡ cond c (x ∷ filter q xs) (filter q xs)
    by true c d e rest = ap (λ b. cond b (x ∷ filter q (filter p xs)) (filter q (filter p xs))) e ∙ ap (λ ys. cond c (x ∷ ys) ys) rest
    by false true d e rest = absurd (both_ways (p x) d (inner x e))
    by false false d e rest = rest
