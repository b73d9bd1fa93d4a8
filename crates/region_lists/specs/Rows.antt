-- The lists of regions: those in use, those from which objects are moved, and the free ones.
use Rattle.std.specs.Prelude.{◌≡◌, ℕ, ◌<◌, ◌==◌, List, [], ◌∷◌, ◌++◌, length, map, All, Option, None, Some, if◌then◌else◌, nat_eq}
use Rattle.std.specs.List.{IsDistinct}

-- a region by its number, and how many of its bytes hold objects
pub record Row : Type 0 where
  pub region : ℕ
  pub fill : ℕ

-- the regions in use and the from regions, each list in the order in which its regions were opened; the free regions, the
-- next to be opened first; and how many regions there are
pub record Lists : Type 0 where
  pub in_use : List Row
  pub from : List Row
  pub free : List ℕ
  pub count : ℕ

-- the numbers of the regions of all three lists
abbrev pub numbers : Lists → List ℕ
numbers s = map (λ row. row.region) s.in_use ++ map (λ row. row.region) s.from ++ s.free

-- what holds of each `Lists`: the three lists together have each region exactly once
pub record IsLists (s : Lists) : Type 0 where
  pub apart : IsDistinct nat_eq (numbers s)
  pub within : All (λ n. n < s.count) (numbers s)
  pub all : length (numbers s) ≡ s.count

-- the first of a list, and the last of it
abbrev pub first_of : List Row → Option Row
first_of [] = None
first_of (row ∷ rest) = Some row

abbrev pub last_of : List Row → Option Row
last_of [] = None
last_of (row ∷ []) = Some row
last_of (row ∷ next ∷ rest) = last_of (next ∷ rest)

-- the list with this fill in its last row
abbrev pub with_last : List Row → ℕ → List Row
with_last [] fill = []
with_last (row ∷ []) fill = record row { fill = fill } ∷ []
with_last (row ∷ next ∷ rest) fill = row ∷ with_last (next ∷ rest) fill

-- the row of a region
abbrev pub row_of : List Row → ℕ → Option Row
row_of [] region = None
row_of (row ∷ rest) region = if row.region == region then Some row else row_of rest region

-- the row behind that of a region
abbrev pub row_behind : List Row → ℕ → Option Row
row_behind [] region = None
row_behind (row ∷ rest) region = if row.region == region then first_of rest else row_behind rest region
