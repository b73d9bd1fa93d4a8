-- What stands first in a list under its identifier.
use Rattle.std.specs.Prelude.{◌≡◌, ℕ, ◌<◌, not, nat_eq, List, [], ◌∷◌, ◌++◌, map, filter, length, get_or, position, Some, if◌then◌else◌}
use Rattle.std.specs.List.{list_any}

-- the elements without those whose identifier an earlier one has
abbrev pub firsts : {X : Type 0} → (X → ℕ) → List X → List X
firsts id [] = []
firsts id (x ∷ xs) = x ∷ filter (λ y. not (nat_eq (id x) (id y))) (firsts id xs)

-- one more element, unless an earlier one has its identifier
abbrev pub with_first : {X : Type 0} → (X → ℕ) → List X → X → List X
with_first id xs x = if list_any (nat_eq (id x)) (map id xs) then xs else xs ++ x ∷ []

-- no number stands twice: each is found at its own place
abbrev pub IsApart : List ℕ → Type 0
IsApart xs = (k : ℕ) → k < length xs → position (nat_eq (get_or xs k 0)) xs ≡ Some k
