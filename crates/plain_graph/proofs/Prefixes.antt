-- Sums and the like over the first elements of a list, as one more is taken.
use Rattle.std.proofs.Common.{◌≡◌, ℕ, ◌+◌, ◌<◌, Bool, true, false, cond, List, [], ◌∷◌, ◌++◌, length, get_or, take, map, filter, sum, max, refl, sym, ap, ◌∙◌, arith}
use Rattle.std.proofs.lemmas.List.{take_more, map_push}
use Rattle.std.proofs.lemmas.List.Sums.{sum-map, sum_by_push}
use Rattle.heap_graph.specs.Graph.{greatest}

module _ {X : Type 0} where
  -- one more element is the one that was read
  pub take_read : (xs : List X) (i : ℕ) (x : X) → i < length xs → x ≡ get_or xs i x → take (i + 1) xs ≡ take i xs ++ x ∷ []
  take_read xs i x less is = take_more xs i x less ∙ ap (λ y. take i xs ++ y ∷ []) (sym is)

  pub sum_more : (f : X → ℕ) (xs : List X) (i : ℕ) (x : X) → i < length xs → x ≡ get_or xs i x → sum (map f (take (i + 1) xs)) ≡ sum (map f (take i xs)) + f x
  sum_more f xs i x less is =
      ap (λ ys. sum (map f ys)) (take_read xs i x less is) ∙ sum-map f (take i xs ++ x ∷ []) ∙ sum_by_push f (take i xs) x ∙ ap (λ n. n + f x) (sym (sum-map f (take i xs)))

  greatest-push : (f : X → ℕ) (xs : List X) (x : X) → greatest (map f (xs ++ x ∷ [])) ≡ max (f x) (greatest (map f xs))
  greatest-push f [] x = refl
  greatest-push f (y ∷ xs) x = omega (arith, greatest-push f xs x)

  pub greatest_more : (f : X → ℕ) (xs : List X) (i : ℕ) (x : X) → i < length xs → x ≡ get_or xs i x → greatest (map f (take (i + 1) xs)) ≡ max (f x) (greatest (map f (take i xs)))
  greatest_more f xs i x less is = ap (λ ys. greatest (map f ys)) (take_read xs i x less is) ∙ greatest-push f (take i xs) x

  -- what a filter keeps of one more element
  pub filter_yes : (p : X → Bool) (xs : List X) (x : X) → p x ≡ true → filter p (xs ++ x ∷ []) ≡ filter p xs ++ x ∷ []
  filter_yes p [] x e = ap (λ b. cond b (x ∷ []) []) e
  filter_yes p (y ∷ xs) x e =
      elim (p y) as (λ b. cond b (y ∷ filter p (xs ++ x ∷ [])) (filter p (xs ++ x ∷ [])) ≡ cond b (y ∷ filter p xs) (filter p xs) ++ x ∷ []) [
        | true ↦ ap (λ ys. y ∷ ys) (filter_yes p xs x e)
        | false ↦ filter_yes p xs x e
      ]

  pub filter_no : (p : X → Bool) (xs : List X) (x : X) → p x ≡ false → filter p (xs ++ x ∷ []) ≡ filter p xs
  filter_no p [] x e = ap (λ b. cond b (x ∷ []) []) e
  filter_no p (y ∷ xs) x e =
      elim (p y) as (λ b. cond b (y ∷ filter p (xs ++ x ∷ [])) (filter p (xs ++ x ∷ [])) ≡ cond b (y ∷ filter p xs) (filter p xs)) [
        | true ↦ ap (λ ys. y ∷ ys) (filter_no p xs x e)
        | false ↦ filter_no p xs x e
      ]

  pub kept_more : (p : X → Bool) (f : X → ℕ) (xs : List X) (i : ℕ) (x : X) → i < length xs → x ≡ get_or xs i x → p x ≡ true → map f (filter p (take (i + 1) xs)) ≡ map f (filter p (take i xs)) ++ f x ∷ []
  kept_more p f xs i x less is e = ap (λ ys. map f (filter p ys)) (take_read xs i x less is) ∙ ap (map f) (filter_yes p (take i xs) x e) ∙ map_push f (filter p (take i xs)) x

  pub kept_same : (p : X → Bool) (f : X → ℕ) (xs : List X) (i : ℕ) (x : X) → i < length xs → x ≡ get_or xs i x → p x ≡ false → map f (filter p (take (i + 1) xs)) ≡ map f (filter p (take i xs))
  kept_same p f xs i x less is e = ap (λ ys. map f (filter p ys)) (take_read xs i x less is) ∙ ap (map f) (filter_no p (take i xs) x e)
