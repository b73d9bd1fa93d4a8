-- How `put_all` comes from one call of `put` to the next.
use Rattle.std.proofs.Common.{ℕ, ◌+◌, ◌≤◌, List, ◌++◌, Option, Some, None, length, take, drop, append_assoc}
use Rattle.std.proofs.Math.Seq.{take-add}
use Rattle.ah_outside.specs.Outside.{Gained, GainedPrefix}

-- after the first bytes of the piece: how many they are, what the sink gained, and its counts of faults
pub record PutSoFar (old : Option (List ℕ)) (piece : List ℕ) (done : ℕ) (new : Option (List ℕ)) (before now : ℕ) : Type 0 where
  pub in_range : done ≤ length piece
  pub gained : Gained old (take done piece) new
  pub never_falls : before ≤ now

-- gained twice is gained at once
Gained-append : (old : Option (List ℕ)) (xs : List ℕ) (mid : Option (List ℕ)) (ys : List ℕ) (new : Option (List ℕ)) →
    Gained old xs mid → Gained mid ys new → Gained old (xs ++ ys) new
Gained-append None xs mid ys new a b = rw a at b
Gained-append (Some held) xs mid ys new a b = rw (← append_assoc) (rw a at b)

-- the first bytes, and then more of the rest
pub Gained-more : (old : Option (List ℕ)) (piece : List ℕ) (done : ℕ) (mid : Option (List ℕ)) (n : ℕ) (new : Option (List ℕ)) →
    Gained old (take done piece) mid → Gained mid (take n (drop done piece)) new → Gained old (take (done + n) piece) new
Gained-more old piece done mid n new a b =
    rw (take-add done n piece) (Gained-append old (take done piece) mid (take n (drop done piece)) new a b)

-- the first bytes, and then some first bytes of the rest
pub GainedPrefix-more : (old : Option (List ℕ)) (piece : List ℕ) (done : ℕ) (mid new : Option (List ℕ)) →
    Gained old (take done piece) mid → GainedPrefix mid (drop done piece) new → GainedPrefix old piece new
GainedPrefix-more old piece done mid new a (n, b) = (done + n, Gained-more old piece done mid n new a b)
