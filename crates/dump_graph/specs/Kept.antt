-- How a graph is kept: the nodes, and the targets of all edges one after another.
use Rattle.std.specs.Prelude.{ℕ, ◌-◌, ◌≤◌, List, map, take, drop, length, All}
use Rattle.dump_graph.specs.Graph.{Node}
use Rattle.dump_graph.specs.declared.node.KeptNode.{KeptNode}

-- a kept node, with those of all targets that are its own
abbrev pub kept_node : List ℕ → KeptNode → Node
kept_node targets n = record { id = n.id; is_root = n.is_root; targets = take (n.to - n.from) (drop n.from targets) }

abbrev pub kept_graph : List ℕ → List KeptNode → List Node
kept_graph targets nodes = map (kept_node targets) nodes

-- the targets of each node stand among those of all
abbrev pub AreKept : List KeptNode → List ℕ → Type 0
AreKept nodes targets = All (λ n. (n.from ≤ n.to) × (n.to ≤ length targets)) nodes
