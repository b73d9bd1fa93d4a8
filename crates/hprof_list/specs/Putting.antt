-- What puts into a sink do.
use Rattle.std.specs.Prelude.{ℕ, ◌≤◌, List, [], ◌∷◌, ◌++◌, Option, Result, MatchResult}
use Rattle.ah_outside.specs.Outside.{FaultRose, Gained, GainedPrefix}
use Rattle.ah_outside.specs.declared.source.Failed.{Failed}

-- The text was put: the sink gained it, or after `Failed` some first bytes of it, which comes where its count of faults
-- rose. That count didn't fall.
abbrev pub Puts : {S : Type 0} → (S → Option (List ℕ)) → (S → ℕ) → S → List ℕ → S → Result (Unit {0}) Failed → Type 0
Puts gained faults old text new result =
    (faults old ≤ faults new)
    × MatchResult result (λ _. Gained (gained old) text (gained new))
    (λ _. GainedPrefix (gained old) text (gained new) × FaultRose (faults old) (faults new))

-- the pieces, one after another, and then the rest
abbrev pub joined : List (List ℕ) → List ℕ → List ℕ
joined [] rest = rest
joined (piece ∷ pieces) rest = piece ++ joined pieces rest
