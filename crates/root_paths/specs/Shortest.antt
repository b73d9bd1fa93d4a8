-- What shows that a path is a shortest one.
use Rattle.std.specs.Prelude.{◌≡◌, ℕ, List, [], ◌∷◌}

-- the last of a node and those that follow it
abbrev pub last : ℕ → List ℕ → ℕ
last n [] = n
last n (m ∷ ms) = last m ms

-- a list of nodes ends with this one
abbrev pub EndsWith : ℕ → List ℕ → Type 0
EndsWith n [] = ⊥
EndsWith n (m ∷ ms) = last m ms ≡ n
