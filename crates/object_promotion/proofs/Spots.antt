-- The spots of objects that stand one directly behind the other.
use Rattle.std.proofs.Common.{◌≡◌, ℕ, zero, suc, ◌+◌, ◌<◌, ◌≤◌, List, [], ◌∷◌, length, get_or, sum, refl, ap, arith}
use Rattle.image_space.specs.Space.{spots_from}
use Rattle.image_space.proofs.SpotLemmas.{sum-cons}

pub spots-length : (at : ℕ) (sizes : List ℕ) → length (spots_from at sizes) ≡ length sizes
spots-length at [] = refl
spots-length at (s ∷ ss) = ap (λ (n : ℕ). suc n) (spots-length (at + s) ss)

-- each object lies behind the first spot and within the bytes of all
pub spots-within : (at : ℕ) (sizes : List ℕ) (i : ℕ) → i < length sizes → (at ≤ get_or (spots_from at sizes) i 0) × (get_or (spots_from at sizes) i 0 + get_or sizes i 0 ≤ at + sum sizes)
spots-within at [] i below = absurd (omega (arith, below))
spots-within at (s ∷ ss) zero below = (omega arith, omega (arith, sum-cons s ss))
spots-within at (s ∷ ss) (suc i) below =
    let rest = spots-within (at + s) ss i (omega (arith, below)) in
    (omega (arith, rest.0), omega (arith, rest.1, sum-cons s ss))

-- and before those behind it
pub spots-apart : (at : ℕ) (sizes : List ℕ) (i j : ℕ) → i < j → j < length sizes → get_or (spots_from at sizes) i 0 + get_or sizes i 0 ≤ get_or (spots_from at sizes) j 0
spots-apart at [] i j less below = absurd (omega (arith, below))
spots-apart at (s ∷ ss) i zero less below = absurd (omega (arith, less))
spots-apart at (s ∷ ss) zero (suc j) less below = (spots-within (at + s) ss j (omega (arith, below))).0
spots-apart at (s ∷ ss) (suc i) (suc j) less below = spots-apart (at + s) ss i j (omega (arith, less)) (omega (arith, below))
