-- How places of identifiers are kept.
use Rattle.std.specs.Prelude.{◌≡◌, ℕ, ◌<◌, ◌^◌, nat_eq, List, map, length, position}
use Rattle.std.specs.Ordering.{nat_cmp}
use Rattle.std.specs.BTreeMap.{BTreeMap, get}
use Rattle.dump_graph.specs.Classes.{Class}
use Rattle.dump_graph.specs.Climbing.{AreClimbs}
use Rattle.dump_graph.specs.declared.climb.Climb.{Climb}

-- a map has the first place of each identifier, and no others; a number of 4 bytes counts them
pub record ArePlaced (ids : List ℕ) (firsts : BTreeMap ℕ ℕ) : Type 0 where
  pub placed : (id : ℕ) → get nat_cmp firsts id ≡ position (nat_eq id) ids
  pub few : length ids < 2 ^ 32

-- the places are those of the classes' identifiers, and there are as many steps up from each class as class dumps
pub record AreClimbed (places : List ℕ) (known : List Class) (climbs : List Climb) : Type 0 where
  pub numbered : places ≡ map (λ c. c.id) known
  pub climbed : AreClimbs known (length known) climbs
