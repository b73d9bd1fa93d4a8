-- Places of numbers in lists.
use Rattle.std.proofs.Common.{◌≡◌, ℕ, suc, ◌+◌, ◌<◌, ◌≤◌, ◌||◌, Bool, true, false, cond, not, nat_eq, nat_lt, List, [], ◌∷◌, ◌++◌, map, length, get_or, Option, None, Some, option_map, refl, ap, sym, ◌∙◌, arith, length-append, subst}
use Rattle.std.specs.Prelude.{position}
use Rattle.std.specs.List.{find, list_any, position_or_len}
use Rattle.std.specs.Option.{option_or}
use Rattle.std.proofs.lemmas.List.Sums.{passes_at_first, fails_before_first}
use Rattle.std.proofs.lemmas.List.Folds.{list_any_none}
use Rattle.dump_graph.specs.Firsts.{IsApart}
use Rattle.std.proofs.lemmas.Grind.{common_steps}

later : (p : ℕ) (n : ℕ) → cond (nat_lt (1 + p) (suc n)) (Some (1 + p)) None ≡ option_map suc (cond (nat_lt p n) (Some p) None)
later p n = grind (arith, common_steps)

pub position-cons : {X : Type 0} (p : X → Bool) (x : X) (xs : List X) → position p (x ∷ xs) ≡ cond (p x) (Some 0) (option_map suc (position p xs))
position-cons p x xs = elim (p x) as (λ b. cond (nat_lt (cond (not b) (1 + position_or_len p xs) 0) (length (x ∷ xs))) (Some (cond (not b) (1 + position_or_len p xs) 0)) None ≡ cond b (Some 0) (option_map suc (position p xs))) [ true ↦ grind (arith, common_steps) | false ↦ later (position_or_len p xs) (length xs) ]

-- where one more is appended, it is found where none was before
pub position-push : {X : Type 0} (p : X → Bool) (y : X) (xs : List X) → position p (xs ++ y ∷ []) ≡ option_or (position p xs) (cond (p y) (Some (length xs)) None)
position-push p y [] = position-cons p y [] ∙ by (p y)
  where
    by : (b : Bool) → cond b (Some 0) (option_map suc None) ≡ option_or None (cond b (Some 0) None)
    by true = refl
    by false = refl
position-push p y (x ∷ xs) = position-cons p x (xs ++ y ∷ []) ∙ (by (position-push p y xs) (p x) ∙ sym (ap (λ o. option_or o (cond (p y) (Some (suc (length xs))) None)) (position-cons p x xs)))
  where
    more : (o : Option ℕ) (b : Bool) → option_map suc (option_or o (cond b (Some (length xs)) None)) ≡ option_or (option_map suc o) (cond b (Some (suc (length xs))) None)
    more (Some n) b = refl
    more None true = refl
    more None false = refl

    by : position p (xs ++ y ∷ []) ≡ option_or (position p xs) (cond (p y) (Some (length xs)) None) → (b : Bool)
        → cond b (Some 0) (option_map suc (position p (xs ++ y ∷ []))) ≡ option_or (cond b (Some 0) (option_map suc (position p xs))) (cond (p y) (Some (suc (length xs))) None)
    by rest true = refl
    by rest false = ap (option_map suc) rest ∙ more (position p xs) (p y)

found-at : (a m n : ℕ) → cond (nat_lt a m) (Some a) None ≡ Some n → (a < m) × (a ≡ n)
found-at a m n found = grind (arith, common_steps)

none-at : (a m : ℕ) → cond (nat_lt a m) (Some a) None ≡ None → m ≤ a
none-at a m none = grind (arith, common_steps)

-- what is found is within the list, and passes
pub position-at : {X : Type 0} (p : X → Bool) (xs : List X) (n : ℕ) (d : X) → position p xs ≡ Some n → (n < length xs) × (p (get_or xs n d) ≡ true)
position-at p xs n d found =
    let at = found-at (position_or_len p xs) (length xs) n found in
    (subst (λ k. k < length xs) at.1 at.0, subst (λ k. p (get_or xs k d) ≡ true) at.1 (passes_at_first p xs d at.0))

-- nothing is found where none passes, and only there
pub position-none : {X : Type 0} (p : X → Bool) (xs : List X) → position p xs ≡ None → list_any p xs ≡ false
position-none p xs none =
    let all = none-at (position_or_len p xs) (length xs) none in
    list_any_none p xs (λ k d within. fails_before_first p xs k d (omega (arith, all, within)))

-- tests of equality
pub equal_from : (a b : ℕ) → nat_eq a b ≡ true → a ≡ b
equal_from a b e = grind (arith, common_steps)

pub nat_eq-same : (a : ℕ) → nat_eq a a ≡ true
nat_eq-same a = grind (arith, common_steps)

pub nat_eq-sym : (a b : ℕ) → nat_eq a b ≡ nat_eq b a
nat_eq-sym a b = grind (arith, common_steps)

-- one that isn't there may be appended
pub apart-push : (xs : List ℕ) (y : ℕ) → IsApart xs → position (nat_eq y) xs ≡ None → IsApart (xs ++ y ∷ [])
apart-push xs y apart new k within = by (nat_lt k (length xs)) refl
  where
    by : (b : Bool) → nat_lt k (length xs) ≡ b → position (nat_eq (get_or (xs ++ y ∷ []) k 0)) (xs ++ y ∷ []) ≡ Some k
    by true lt =
        let below : k < length xs = grind (arith, common_steps) in
        let is : get_or (xs ++ y ∷ []) k 0 ≡ get_or xs k 0 = grind (arith, common_steps) in
        subst (λ z. position (nat_eq z) (xs ++ y ∷ []) ≡ Some k) (sym is)
        (position-push (nat_eq (get_or xs k 0)) y xs ∙ ap (λ o. option_or o (cond (nat_eq (get_or xs k 0) y) (Some (length xs)) None)) (apart k below))
    by false ge =
        let at : k ≡ length xs = grind (arith, common_steps, length-append) in
        let is : get_or (xs ++ y ∷ []) k 0 ≡ y = grind (arith, common_steps) in
        subst (λ z. position (nat_eq z) (xs ++ y ∷ []) ≡ Some k) (sym is)
        (position-push (nat_eq y) y xs ∙ (ap (λ o. option_or o (cond (nat_eq y y) (Some (length xs)) None)) new ∙ (ap (λ b. cond b (Some (length xs)) None) (nat_eq-same y) ∙ ap Some (sym at))))

-- what is found first stands at its identifier's place
pub find-by-position : {X : Type 0} (f : X → ℕ) (id : ℕ) (d : X) (xs : List X) → find (λ x. nat_eq id (f x)) xs ≡ option_map (λ n. get_or xs n d) (position (nat_eq id) (map f xs))
find-by-position f id d [] = refl
find-by-position {X} f id d (x ∷ xs) =
    by (find-by-position f id d xs) (nat_eq id (f x))
    ∙ sym (ap (option_map (λ n. get_or (x ∷ xs) n d)) (position-cons (nat_eq id) (f x) (map f xs)))
  where
    later-one : (o : Option ℕ) → option_map (λ n. get_or xs n d) o ≡ option_map (λ n. get_or (x ∷ xs) n d) (option_map suc o)
    later-one None = refl
    later-one (Some n) = refl

    by : find (λ y. nat_eq id (f y)) xs ≡ option_map (λ n. get_or xs n d) (position (nat_eq id) (map f xs)) → (b : Bool)
        → cond b (Some x) (find (λ y. nat_eq id (f y)) xs) ≡ option_map (λ n. get_or (x ∷ xs) n d) (cond b (Some 0) (option_map suc (position (nat_eq id) (map f xs))))
    by rest true = refl
    by rest false = rest ∙ later-one (position (nat_eq id) (map f xs))

-- the place of an element by its identifier
pub position-by : {X : Type 0} (f : X → ℕ) (id : ℕ) (xs : List X) → position (λ x. nat_eq (f x) id) xs ≡ position (nat_eq id) (map f xs)
position-by f id [] = refl
position-by f id (x ∷ xs) =
    position-cons (λ y. nat_eq (f y) id) x xs
    ∙ (ap (λ b. cond b (Some 0) (option_map suc (position (λ y. nat_eq (f y) id) xs))) (nat_eq-sym (f x) id)
    ∙ (ap (λ o. cond (nat_eq id (f x)) (Some 0) (option_map suc o)) (position-by f id xs)
    ∙ sym (position-cons (nat_eq id) (f x) (map f xs))))

-- where none passes, nothing is found
pub any-none : {X : Type 0} (p : X → Bool) (xs : List X) → list_any p xs ≡ false → position p xs ≡ None
any-none p [] none = refl
any-none p (x ∷ xs) none = position-cons p x xs ∙ by (any-none p xs) (p x) none
  where
    by : (list_any p xs ≡ false → position p xs ≡ None) → (b : Bool) → (b || list_any p xs) ≡ false → cond b (Some 0) (option_map suc (position p xs)) ≡ None
    by rest true none = absurd cc
    by rest false none = ap (option_map suc) (rest none)
