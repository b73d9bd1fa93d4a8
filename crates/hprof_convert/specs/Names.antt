-- Identifiers, and the numbers that they get.
use Rattle.std.specs.Prelude.{◌≡◌, ◌⊎◌, ℕ, ◌+◌, nat_eq, List, [], ◌∷◌, ◌++◌, position, Contains, Option, None, Some, is_some, if◌then◌else◌}

-- one more identifier: behind the others, unless it is 0 or one of them
abbrev pub with_name : List ℕ → ℕ → List ℕ
with_name names id = if nat_eq id 0 then names else if is_some (position (nat_eq id) names) then names else names ++ id ∷ []

-- some more identifiers, one after another
abbrev pub with_names : List ℕ → List ℕ → List ℕ
with_names names [] = names
with_names names (id ∷ ids) = with_names (with_name names id) ids

-- identifiers in the order in which they first appear, without 0
abbrev pub named : List ℕ → List ℕ
named ids = with_names [] ids

-- the number for a place: 1 for the first
abbrev pub number_at : Option ℕ → ℕ
number_at None = 0
number_at (Some place) = place + 1

-- the new identifier: its number among these. 0 stays 0.
abbrev pub rename : List ℕ → ℕ → ℕ
rename names id = number_at (position (nat_eq id) names)

-- an identifier of a list, or 0
abbrev pub IsAmong : List ℕ → ℕ → Type 0
IsAmong ids id = (id ≡ 0) ⊎ Contains ids id
