-- What a contract sees of a `Sharers`: how many have each number.
use Rattle.std.specs.Prelude.{◌≡◌, ℕ, ◌<◌, ◌==◌, ◌^◌, List, length, count_by, slice_index_or}

-- how many have each number from 0 on, how many numbers nobody has, and for how many numbers there is memory
pub record Shares : Type 0 where
  pub counts : List ℕ
  pub spare : ℕ
  pub room : ℕ

-- how many have a number; nobody has one that there isn't
abbrev pub count_of : Shares → ℕ → ℕ
count_of s number = slice_index_or s.counts number 0

-- what holds of each `Sharers`: the spare numbers are those that nobody has
pub record AreTallied (s : Shares) : Type 0 where
  pub spare : count_by (λ c. c == 0) s.counts ≡ s.spare
  pub few : length s.counts < 2 ^ 32

-- nothing but the memory taken has changed
pub record SameCounts (old new : Shares) : Type 0 where
  pub counts : new.counts ≡ old.counts
  pub spare : new.spare ≡ old.spare
