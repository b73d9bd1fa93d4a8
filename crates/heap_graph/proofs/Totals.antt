-- Sums over objects, one by one.
use Rattle.std.proofs.Common.{◌≡◌, ℕ, ◌+◌, ◌≤◌, Bool, true, false, cond, List, [], ◌∷◌, ◌++◌, map, filter, sum, refl, ap, ◌∙◌, arith}
use Rattle.std.proofs.lemmas.List.Sums.{sum_by-cons}
use Rattle.class_layout.specs.ClassList.{Class}
use Rattle.heap_graph.specs.Fork.{next_spot, promoted_from, promoted_place}
use Rattle.heap_graph.specs.Graph.{Object, size_of_object}

-- the sum, from the first object on
abbrev pub total : (Object → ℕ) → List Object → ℕ
total f [] = 0
total f (o ∷ os) = f o + total f os

pub sum-total : (f : Object → ℕ) (os : List Object) → sum (map f os) ≡ total f os
sum-total f [] = refl
sum-total f (o ∷ os) = sum_by-cons (λ x. x) (f o) (map f os) ∙ ap (λ n. f o + n) (sum-total f os)

-- one more object
pub total-push : (f : Object → ℕ) (os : List Object) (o : Object) → total f (os ++ o ∷ []) ≡ total f os + f o
total-push f [] o = omega arith
total-push f (x ∷ os) o = omega (arith, total-push f os o)

-- changed objects that count the same
pub total-map : (f : Object → ℕ) (change : Object → Object) → ((o : Object) → f (change o) ≡ f o) → (os : List Object) → total f (map change os) ≡ total f os
total-map f change same [] = refl
total-map f change same (o ∷ os) = omega (arith, same o, total-map f change same os)

module _ (keep : Object → Bool) (f : Object → ℕ) where
  -- fewer objects
  pub total-filter_le : (os : List Object) → total f (filter keep os) ≤ total f os
  total-filter_le [] = omega arith
  total-filter_le (o ∷ os) = by (keep o) (total-filter_le os)
    where
      by : (b : Bool) → total f (filter keep os) ≤ total f os → total f (cond b (o ∷ filter keep os) (filter keep os)) ≤ f o + total f os
      by true rest = omega (arith, rest)
      by false rest = omega (arith, rest)

  -- those that count are kept
  pub total-filter : ((o : Object) → keep o ≡ false → f o ≡ 0) → (os : List Object) → total f (filter keep os) ≡ total f os
  total-filter none [] = refl
  total-filter none (o ∷ os) = by (keep o) refl (total-filter none os)
    where
      by : (b : Bool) → keep o ≡ b → total f (filter keep os) ≡ total f os → total f (cond b (o ∷ filter keep os) (filter keep os)) ≡ f o + total f os
      by true e rest = ap (λ n. f o + n) rest
      by false e rest = omega (arith, rest, none o e)

-- other places, of which the sum takes no note
pub total-promoted : (f : Object → ℕ) → ((o : Object) (at : ℕ) → f (record o { place = promoted_place at o.place }) ≡ f o) → (cs : List Class) (at : ℕ) (os : List Object)
    → total f (promoted_from cs at os) ≡ total f os
total-promoted f same cs at [] = refl
total-promoted f same cs at (o ∷ os) = omega (arith, same o at, total-promoted f same cs (next_spot at (size_of_object cs o) o.place) os)
