-- What roots and immune objects hold.
use Rattle.std.specs.Prelude.{ℕ, List, map, filter}
use Rattle.std.specs.List.{flat_map}
use Rattle.heap_graph.specs.declared.names.Root.{Root}
use Rattle.heap_graph.specs.Reach.{Node}
use Rattle.heap_graph.specs.Values.{held_targets}

-- what roots hold
abbrev pub roots_held : List Root → List ℕ
roots_held rs = held_targets (map (λ r. r.holds) rs)

-- what immune objects hold
abbrev pub immune_held : List Node → List ℕ
immune_held vs = flat_map (λ v. v.targets) (filter (λ v. v.immune) vs)
