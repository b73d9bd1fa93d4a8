-- A list that changes where a first element passes a test, or else grows at its end.
use Rattle.std.proofs.Common.{◌≡◌, ℕ, zero, suc, ◌<◌, Bool, true, false, cond, inl, inr, List, [], ◌∷◌, ◌++◌, None, Some, length, get_or, set, position, sym, ap, ◌∙◌, arith}
use Rattle.std.specs.List.{position_or_len}
use Rattle.std.proofs.lemmas.Bool.{cases_lt, lt-ltb}
use Rattle.std.proofs.lemmas.List.Sums.{fails_before_first}
use Rattle.std.proofs.lemmas.List.Quantifiers.{position-Some}
use Rattle.std.proofs.lemmas.Option.{none-some}

module _ {X : Type 0} where
  -- where no place is the first, each element fails
  fails_everywhere : (p : X → Bool) (xs : List X) (d : X) → position p xs ≡ None → (k : ℕ) → k < length xs → p (get_or xs k d) ≡ false
  fails_everywhere p xs d none k less =
      elim (cases_lt (position_or_len p xs) (length xs)) [
        | inl within ↦ absurd (none-some (position_or_len p xs) (sym none ∙ ap (λ b. cond b (Some (position_or_len p xs)) None) (lt-ltb _ _ within)))
        | inr past ↦ fails_before_first p xs k d (omega arith)
      ]

  module _ (f : List X → List X) (p : X → Bool) (g : X → X) (last : X) (none : f [] ≡ last ∷ []) (step : (x : X) (xs : List X) → f (x ∷ xs) ≡ cond (p x) (g x ∷ xs) (x ∷ f xs)) where
    changed : (xs : List X) (i : ℕ) (d : X) → i < length xs → ((k : ℕ) → k < i → p (get_or xs k d) ≡ false) → p (get_or xs i d) ≡ true → f xs ≡ set xs i (g (get_or xs i d))
    changed [] i d within before here = absurd (omega arith)
    changed (x ∷ xs) zero d within before here = step x xs ∙ ap (λ b. cond b (g x ∷ xs) (x ∷ f xs)) here
    changed (x ∷ xs) (suc i) d within before here =
        step x xs ∙ ap (λ b. cond b (g x ∷ xs) (x ∷ f xs)) (before 0 (omega arith)) ∙ ap (λ ys. x ∷ ys) (changed xs i d (omega arith) (λ k less. before (suc k) (omega arith)) here)

    grown : (xs : List X) (d : X) → ((k : ℕ) → k < length xs → p (get_or xs k d) ≡ false) → f xs ≡ xs ++ last ∷ []
    grown [] d fails = none
    grown (x ∷ xs) d fails =
        step x xs ∙ ap (λ b. cond b (g x ∷ xs) (x ∷ f xs)) (fails 0 (omega arith)) ∙ ap (λ ys. x ∷ ys) (grown xs d (λ k less. fails (suc k) (omega arith)))

    -- the first element that passes is changed
    pub changed_at : (xs : List X) (i : ℕ) (d : X) → position p xs ≡ Some i → f xs ≡ set xs i (g (get_or xs i d))
    changed_at xs i d at = let h = position-Some p xs i d at in changed xs i d h.0 h.2 h.1

    -- or one more stands at the end
    pub grown_by : (xs : List X) → position p xs ≡ None → f xs ≡ xs ++ last ∷ []
    grown_by xs at = grown xs last (fails_everywhere p xs last at)
