-- Pieces put one behind another.
use Rattle.std.proofs.Common.{◌≡◌, ℕ, List, ◌++◌, append_assoc}

-- two pieces with their numbers, behind what was written
pub regroup : (a b c d e : List ℕ) → (((a ++ b) ++ c) ++ d) ++ e ≡ a ++ (((b ++ c) ++ d) ++ e)
regroup a b c d e = simp append_assoc
