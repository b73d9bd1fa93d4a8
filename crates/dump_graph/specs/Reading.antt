-- How far the reading of an instance's values is. These are words of the code.
use Rattle.std.specs.Prelude.{◌≡◌, ℕ, ◌<◌, ◌≤◌, List, [], ◌++◌, drop, length, sum_by, Option, None, Some}
use Rattle.hprof_records.specs.Types.{value_bytes}
use Rattle.dump_graph.specs.Classes.{Class}
use Rattle.dump_graph.specs.Climbing.{climb, gathered}
use Rattle.dump_graph.specs.References.{references_in}
use Rattle.dump_graph.specs.declared.climb.Up.TheVariants.{Top}

-- the codes that are left from a class on, by at most so many steps to the top
abbrev pub IsLeft : List Class → Option ℕ → ℕ → List ℕ → Type 0
IsLeft known None fuel left = left ≡ []
IsLeft known (Some n) fuel left = (s : ℕ) × ((s ≤ fuel) × (n < length known) × ((climb known s n).next ≡ Top) × (left ≡ gathered known s n))

-- all codes but these were read
pub record HasRead (all left bytes found rest found' : List ℕ) : Type 0 where
  pub done : List ℕ
  pub split : all ≡ done ++ left
  pub within : sum_by value_bytes done ≤ length bytes
  pub rest_is : rest ≡ drop (sum_by value_bytes done) bytes
  pub found_is : found' ≡ found ++ references_in done bytes
