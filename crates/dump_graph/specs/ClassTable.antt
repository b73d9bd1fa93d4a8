-- The table of classes, as the code keeps it.
use Rattle.std.specs.Prelude.{◌≡◌, ℕ, ◌<◌, nat_eq, List, map, length, position, Option, None, Some, option_and_then}
use Rattle.dump_graph.specs.Firsts.{IsApart}
use Rattle.dump_graph.specs.Classes.{Class}
use Rattle.dump_graph.specs.Climbing.{climb, AreClimbs}
use Rattle.dump_graph.specs.declared.climb.Climb.{Climb}
use Rattle.dump_graph.specs.declared.climb.Up.{Up}
use Rattle.dump_graph.specs.declared.climb.Up.TheVariants.{Top, Above, Lost}

-- the numbers are those of the known classes, and the climbs have as many steps as there are class dumps
pub record IsClassTable (ids : List ℕ) (known : List Class) (climbs : List Climb) (dumps : ℕ) : Type 0 where
  pub numbered : ids ≡ map (λ c. c.id) known
  pub apart : IsApart ids
  pub climbed : AreClimbs known dumps climbs

-- the number, where a climb comes to the top
abbrev pub if_top : Up → ℕ → Option ℕ
if_top Top n = Some n
if_top (Above p) n = None
if_top Lost n = None

-- the number of a class whose superclasses are known up to the top
abbrev pub laid_out : List Class → ℕ → ℕ → Option ℕ
laid_out known dumps id = option_and_then (λ n. if_top (climb known dumps n).next n) (position (nat_eq id) (map (λ c. c.id) known))

-- a number of such a class
abbrev pub IsLaidOut : List Class → ℕ → ℕ → Type 0
IsLaidOut known dumps n = (n < length known) × ((climb known dumps n).next ≡ Top)
