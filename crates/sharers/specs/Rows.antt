-- How a `Sharers` links its free numbers. No public clause cites this module.
use Rattle.std.specs.Prelude.{◌≡◌, ℕ, ◌+◌, ◌<◌, ◌≤◌, ◌==◌, ◌^◌, List, length, map, count_by, slice_index_or}
use Rattle.sharers.specs.declared.rows.Row.{Row}

abbrev pub counts_of : List Row → List ℕ
counts_of rows = map (λ (it : Row). it.holders) rows

abbrev pub holders_of : List Row → ℕ → ℕ
holders_of rows n = slice_index_or (map (λ (it : Row). it.holders) rows) n 0

abbrev pub next_of : List Row → ℕ → ℕ
next_of rows n = slice_index_or (map (λ (it : Row). it.next) rows) n 0

abbrev pub rank_of : List Row → ℕ → ℕ
rank_of rows n = slice_index_or (map (λ (it : Row). it.rank) rows) n 0

-- the number stands in the list of free numbers
abbrev pub IsFree : List Row → ℕ → Type 0
IsFree rows n = (n < length rows) × (holders_of rows n ≡ 0)

-- the free numbers are linked by falling rank, from the first of them on
pub record IsLinked (rows : List Row) (first spare : ℕ) : Type 0 where
  pub head : 0 < spare → IsFree rows first × (rank_of rows first ≡ spare)
  pub ranked : (n : ℕ) → IsFree rows n → (0 < rank_of rows n) × (rank_of rows n ≤ spare)
  pub apart : (n m : ℕ) → IsFree rows n → IsFree rows m → rank_of rows n ≡ rank_of rows m → n ≡ m
  pub linked : (n : ℕ) → IsFree rows n → 1 < rank_of rows n → IsFree rows (next_of rows n) × (rank_of rows (next_of rows n) + 1 ≡ rank_of rows n)
  pub counted : count_by (λ (it : Row). it.holders == 0) rows ≡ spare

-- what holds of the rows of each `Sharers`
pub record AreRows (rows : List Row) (first spare : ℕ) : Type 0 where
  pub linked : IsLinked rows first spare
  pub few : length rows < 2 ^ 32
