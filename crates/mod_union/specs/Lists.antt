-- Lists of what stands at numbers, by rising number.
use Rattle.std.specs.Prelude.{ℕ, ◌+◌, ◌*◌, ◌^◌, ◌<◌, ◌≤◌, List, [], ◌∷◌}
use Rattle.class_layout.specs.Placing.{IsIn}
use Rattle.model_numbers.specs.Numbers.{card_bytes}

-- the numbers rise strictly, each from `low` on
abbrev pub AreRising : {X : Type 0} → (X → ℕ) → ℕ → List X → Type 0
AreRising key low [] = Unit {0}
AreRising key low (x ∷ rest) = (low ≤ key x) × AreRising key (key x + 1) rest

-- exactly those of which P holds with numbers below a bound, by rising number
pub record ListsBelow {X : Type 0} (key : X → ℕ) (P : X → Type 0) (bound : ℕ) (xs : List X) : Type 0 where
  pub rising : AreRising key 0 xs
  pub sound : (x : X) → IsIn x xs → P x
  pub below : (x : X) → IsIn x xs → key x < bound
  pub complete : (x : X) → P x → key x < bound → IsIn x xs

-- a number as its own
abbrev pub itself : ℕ → ℕ
itself n = n

-- cards by rising number, each of 32 bits of addresses
pub record AreCards (cards : List ℕ) : Type 0 where
  pub rising : AreRising itself 0 cards
  pub within : (card : ℕ) → IsIn card cards → card_bytes * (card + 1) ≤ 2 ^ 32
