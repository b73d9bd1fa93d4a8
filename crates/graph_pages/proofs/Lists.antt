-- What is in a list.
use Rattle.std.proofs.Common.{◌≡◌, ◌∙◌, ◌⊎◌, Bool, true, false, cond, List, [], ◌∷◌, ◌++◌, refl, sym, ap, subst, inl, inr, map, filter, true≢false}
use Rattle.std.specs.Prelude.{◌||◌}
use Rattle.std.specs.List.{list_any}
use Rattle.class_layout.specs.Placing.{IsIn}

pub in-filter : {X : Type 0} (p : X → Bool) (xs : List X) (x : X) → IsIn x (filter p xs) → IsIn x xs × (p x ≡ true)
in-filter p [] x there = absurd there
in-filter p (y ∷ xs) x there = by (p y) refl there (in-filter p xs x)
  where
    by : (b : Bool) → p y ≡ b → IsIn x (cond b (y ∷ filter p xs) (filter p xs)) → (IsIn x (filter p xs) → IsIn x xs × (p x ≡ true)) → IsIn x (y ∷ xs) × (p x ≡ true)
    by true e (inl same) rest = (inl same, ap p (sym same) ∙ e)
    by true e (inr there) rest = let it = rest there in (inr it.0, it.1)
    by false e there rest = let it = rest there in (inr it.0, it.1)

pub filter-in : {X : Type 0} (p : X → Bool) (xs : List X) (x : X) → IsIn x xs → p x ≡ true → IsIn x (filter p xs)
filter-in p [] x there is = absurd there
filter-in p (y ∷ xs) x (inl e) is = subst (λ b. IsIn x (cond b (y ∷ filter p xs) (filter p xs))) (sym (ap p e ∙ is)) (inl e)
filter-in p (y ∷ xs) x (inr there) is = by (p y) (filter-in p xs x there is)
  where
    by : (b : Bool) → IsIn x (filter p xs) → IsIn x (cond b (y ∷ filter p xs) (filter p xs))
    by true rest = inr rest
    by false rest = rest

pub map-in : {X Y : Type 0} (f : X → Y) (xs : List X) (x : X) → IsIn x xs → IsIn (f x) (map f xs)
map-in f [] x there = absurd there
map-in f (y ∷ xs) x (inl e) = inl (ap f e)
map-in f (y ∷ xs) x (inr there) = inr (map-in f xs x there)

pub any-from : {X : Type 0} (p : X → Bool) (xs : List X) → list_any p xs ≡ true → (x : X) × IsIn x xs × (p x ≡ true)
any-from p [] is = absurd (true≢false (sym is))
any-from {X = X} p (x ∷ xs) is = by (p x) refl is (any-from p xs)
  where
    by : (b : Bool) → p x ≡ b → (b || list_any p xs) ≡ true → (list_any p xs ≡ true → (y : X) × IsIn y xs × (p y ≡ true)) → (y : X) × IsIn y (x ∷ xs) × (p y ≡ true)
    by true e is rest = (x, inl refl, e)
    by false e is rest = let it = rest is in (it.0, inr it.1, it.2)

pub any-to : {X : Type 0} (p : X → Bool) (xs : List X) (x : X) → IsIn x xs → p x ≡ true → list_any p xs ≡ true
any-to p [] x there is = absurd there
any-to p (y ∷ xs) x (inl e) is = ap (λ b. b || list_any p xs) (ap p e ∙ is)
any-to p (y ∷ xs) x (inr there) is = ap (λ b. p y || b) (any-to p xs x there is) ∙ true-right (p y)
  where
    true-right : (b : Bool) → (b || true) ≡ true
    true-right true = refl
    true-right false = refl

pub in-map : {X Y : Type 0} (f : X → Y) (xs : List X) (y : Y) → IsIn y (map f xs) → (x : X) × IsIn x xs × (f x ≡ y)
in-map f [] y there = absurd there
in-map f (x ∷ xs) y (inl e) = (x, inl refl, e)
in-map f (x ∷ xs) y (inr there) = let it = in-map f xs y there in (it.0, inr it.1, it.2)

pub in-append : {X : Type 0} (xs : List X) (x y : X) → IsIn y (xs ++ x ∷ []) → IsIn y xs ⊎ (x ≡ y)
in-append [] x y (inl e) = inr e
in-append [] x y (inr there) = absurd there
in-append (z ∷ xs) x y (inl e) = inl (inl e)
in-append (z ∷ xs) x y (inr there) = elim (in-append xs x y there) [ inl it ↦ inl (inr it) | inr e ↦ inr e ]

pub any-same : {X : Type 0} (p q : X → Bool) (xs : List X) → ((x : X) → IsIn x xs → p x ≡ q x) → list_any p xs ≡ list_any q xs
any-same p q [] same = refl
any-same p q (x ∷ xs) same = ap (λ b. b || list_any p xs) (same x (inl refl)) ∙ ap (λ b. q x || b) (any-same p q xs (λ y there. same y (inr there)))

pub in-front : {X : Type 0} (xs : List X) (x y : X) → IsIn y xs → IsIn y (xs ++ x ∷ [])
in-front [] x y there = absurd there
in-front (z ∷ xs) x y (inl e) = inl e
in-front (z ∷ xs) x y (inr there) = inr (in-front xs x y there)

pub in-last : {X : Type 0} (xs : List X) (x : X) → IsIn x (xs ++ x ∷ [])
in-last [] x = inl refl
in-last (z ∷ xs) x = inr (in-last xs x)
