-- What stands first in a list under its identifier.
use Rattle.std.proofs.Common.{◌≡◌, ℕ, ◌||◌, Bool, true, false, cond, not, nat_eq, List, [], ◌∷◌, ◌++◌, map, None, Some, refl, ap, sym, ◌∙◌, subst}
use Rattle.std.specs.Prelude.{◌↔◌, filter, position, IsNone, Option}
use Rattle.std.specs.Option.{is_some}
use Rattle.std.specs.List.{find, list_any}
use Rattle.std.proofs.lemmas.List.{append-nil}
use Rattle.std.proofs.lemmas.List.Elements.{filter-append}
use Rattle.dump_graph.specs.Firsts.{firsts, with_first}
use Rattle.dump_graph.proofs.Positions.{any-none, equal_from, nat_eq-sym, position-none}

pub none-is : {X : Type 0} (o : Option X) → IsNone o → o ≡ None
none-is None none = refl
none-is (Some x) none = absurd cc

module _ {X : Type 0} (f : X → ℕ) where
  -- taking out the elements that are the same as another one leaves those that are the same as x
  any-kept : (a b : ℕ) → nat_eq a b ≡ false → (l : List X) → list_any (nat_eq b) (map f (filter (λ q. not (nat_eq a (f q))) l)) ≡ list_any (nat_eq b) (map f l)
  any-kept a b apart [] = refl
  any-kept a b apart (q ∷ l) = by (any-kept a b apart l) (nat_eq a (f q)) refl
    where
      by : list_any (nat_eq b) (map f (filter (λ q. not (nat_eq a (f q))) l)) ≡ list_any (nat_eq b) (map f l) → (t : Bool) → nat_eq a (f q) ≡ t
          → list_any (nat_eq b) (map f (cond (not t) (q ∷ filter (λ q. not (nat_eq a (f q))) l) (filter (λ q. not (nat_eq a (f q))) l))) ≡ (nat_eq b (f q) || list_any (nat_eq b) (map f l))
      by rest true is =
          let same : nat_eq b (f q) ≡ false = subst (λ z. nat_eq b z ≡ false) (equal_from a (f q) is) (nat_eq-sym b a ∙ apart) in
          rest ∙ ap (λ t. t || list_any (nat_eq b) (map f l)) (sym same)
      by rest false is = ap (λ t. nat_eq b (f q) || t) rest

  pub firsts-push : (x : X) (xs : List X) → firsts f (xs ++ x ∷ []) ≡ cond (list_any (nat_eq (f x)) (map f (firsts f xs))) (firsts f xs) (firsts f xs ++ x ∷ [])
  firsts-push x [] = refl
  firsts-push x (p ∷ ps) = by (firsts-push x ps) (nat_eq (f p) (f x)) refl
    where
      other : X → Bool
      other q = not (nat_eq (f p) (f q))

      same : nat_eq (f p) (f x) ≡ true → (c : Bool) → filter other (cond c (firsts f ps) (firsts f ps ++ x ∷ [])) ≡ filter other (firsts f ps)
      same is true = refl
      same is false = filter-append other (firsts f ps) (x ∷ []) ∙ (ap (λ t. filter other (firsts f ps) ++ cond (not t) (x ∷ []) []) is ∙ append-nil (filter other (firsts f ps)))

      apart : nat_eq (f p) (f x) ≡ false → (c : Bool) → filter other (cond c (firsts f ps) (firsts f ps ++ x ∷ [])) ≡ cond c (filter other (firsts f ps)) (filter other (firsts f ps) ++ x ∷ [])
      apart is true = refl
      apart is false = filter-append other (firsts f ps) (x ∷ []) ∙ ap (λ t. filter other (firsts f ps) ++ cond (not t) (x ∷ []) []) is

      pushed : (c : Bool) → p ∷ cond c (filter other (firsts f ps)) (filter other (firsts f ps) ++ x ∷ []) ≡ cond c (p ∷ filter other (firsts f ps)) ((p ∷ filter other (firsts f ps)) ++ x ∷ [])
      pushed true = refl
      pushed false = refl

      by : firsts f (ps ++ x ∷ []) ≡ cond (list_any (nat_eq (f x)) (map f (firsts f ps))) (firsts f ps) (firsts f ps ++ x ∷ []) → (t : Bool) → nat_eq (f p) (f x) ≡ t
          → p ∷ filter other (firsts f (ps ++ x ∷ [])) ≡ cond (nat_eq (f x) (f p) || list_any (nat_eq (f x)) (map f (filter other (firsts f ps)))) (p ∷ filter other (firsts f ps)) ((p ∷ filter other (firsts f ps)) ++ x ∷ [])
      by rest true is =
          ap (λ l. p ∷ filter other l) rest ∙ (ap (λ l. p ∷ l) (same is (list_any (nat_eq (f x)) (map f (firsts f ps))))
          ∙ sym (ap (λ t. cond (t || list_any (nat_eq (f x)) (map f (filter other (firsts f ps)))) (p ∷ filter other (firsts f ps)) ((p ∷ filter other (firsts f ps)) ++ x ∷ [])) (nat_eq-sym (f x) (f p) ∙ is)))
      by rest false is =
          let c = list_any (nat_eq (f x)) (map f (firsts f ps)) in
          ap (λ l. p ∷ filter other l) rest ∙ (ap (λ l. p ∷ l) (apart is c) ∙ (pushed c
          ∙ (sym (ap (λ t. cond t (p ∷ filter other (firsts f ps)) ((p ∷ filter other (firsts f ps)) ++ x ∷ [])) (any-kept (f p) (f x) is (firsts f ps)))
          ∙ sym (ap (λ t. cond (t || list_any (nat_eq (f x)) (map f (filter other (firsts f ps)))) (p ∷ filter other (firsts f ps)) ((p ∷ filter other (firsts f ps)) ++ x ∷ [])) (nat_eq-sym (f x) (f p) ∙ is)))))

  find-kept : (a id : ℕ) → nat_eq id a ≡ false → (l : List X) → find (λ x. nat_eq id (f x)) (filter (λ q. not (nat_eq a (f q))) l) ≡ find (λ x. nat_eq id (f x)) l
  find-kept a id apart [] = refl
  find-kept a id apart (q ∷ l) = by (find-kept a id apart l) (nat_eq a (f q)) refl
    where
      by : find (λ x. nat_eq id (f x)) (filter (λ q. not (nat_eq a (f q))) l) ≡ find (λ x. nat_eq id (f x)) l → (t : Bool) → nat_eq a (f q) ≡ t
          → find (λ x. nat_eq id (f x)) (cond (not t) (q ∷ filter (λ q. not (nat_eq a (f q))) l) (filter (λ q. not (nat_eq a (f q))) l)) ≡ cond (nat_eq id (f q)) (Some q) (find (λ x. nat_eq id (f x)) l)
      by rest true is =
          let same : nat_eq id (f q) ≡ false = subst (λ z. nat_eq id z ≡ false) (equal_from a (f q) is) apart in
          rest ∙ ap (λ t. cond t (Some q) (find (λ x. nat_eq id (f x)) l)) (sym same)
      by rest false is = ap (λ o. cond (nat_eq id (f q)) (Some q) o) rest

  -- the first with an identifier is the same
  pub find-firsts : (id : ℕ) (xs : List X) → find (λ x. nat_eq id (f x)) (firsts f xs) ≡ find (λ x. nat_eq id (f x)) xs
  find-firsts id [] = refl
  find-firsts id (x ∷ xs) = by (find-firsts id xs) (nat_eq id (f x)) refl
    where
      by : find (λ y. nat_eq id (f y)) (firsts f xs) ≡ find (λ y. nat_eq id (f y)) xs → (t : Bool) → nat_eq id (f x) ≡ t
          → cond t (Some x) (find (λ y. nat_eq id (f y)) (filter (λ q. not (nat_eq (f x) (f q))) (firsts f xs))) ≡ cond t (Some x) (find (λ y. nat_eq id (f y)) xs)
      by rest true is = refl
      by rest false is = find-kept (f x) id is (firsts f xs) ∙ rest

  -- one that is new is appended, and another one isn't
  pub first-new : (xs : List X) (x : X) → position (nat_eq (f x)) (map f xs) ≡ None → with_first f xs x ≡ xs ++ x ∷ []
  first-new xs x new = ap (λ b. cond b xs (xs ++ x ∷ [])) (position-none (nat_eq (f x)) (map f xs) new)

  pub first-known : (xs : List X) (x : X) → (position (nat_eq (f x)) (map f xs) ≡ None → ⊥) → with_first f xs x ≡ xs
  first-known xs x known = by (list_any (nat_eq (f x)) (map f xs)) refl
    where
      by : (b : Bool) → list_any (nat_eq (f x)) (map f xs) ≡ b → cond b xs (xs ++ x ∷ []) ≡ xs
      by true is = refl
      by false is = absurd (known (any-none (nat_eq (f x)) (map f xs) is))

  -- the same by what an addition of its identifier tells
  module _ (xs : List X) (x : X) (ids : List ℕ) (id : ℕ) (is_new : Bool) (are : ids ≡ map f xs) (is : id ≡ f x) (told : (is_new ≡ true) ↔ IsNone (position (nat_eq id) ids)) where
    place : position (nat_eq (f x)) (map f xs) ≡ position (nat_eq id) ids
    place = ap (λ i. position (nat_eq i) (map f xs)) (sym is) ∙ ap (position (nat_eq id)) (sym are)

    pub added-new : is_new ≡ true → with_first f xs x ≡ xs ++ x ∷ []
    added-new new = first-new xs x (place ∙ none-is (position (nat_eq id) ids) (told.0 new))

    pub added-known : is_new ≡ false → with_first f xs x ≡ xs
    added-known old = first-known xs x (λ none. absurd (cc (told.1 (ap is_some (sym place ∙ none)), old)))
