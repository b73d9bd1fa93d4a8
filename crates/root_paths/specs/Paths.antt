-- Paths through a dump's graph, from a root along edges, and how far a node is from the roots. Nodes go by their numbers.
use Rattle.std.specs.Prelude.{ℕ, zero, suc, Bool, false, ◌&&◌, IsTrue, nat_eq, List, [], ◌∷◌, ◌++◌, map, filter, length, get_or, Option, None, Some, option_map, unwrap_or}
use Rattle.std.specs.List.{flat_map, list_any, find, range_with_len}
use Rattle.dump_graph.specs.Graph.{Node}

-- the numbers of the nodes
abbrev pub numbers : List Node → List ℕ
numbers g = range_with_len 0 (length g)

-- whether a node is a root, and the nodes to which it has an edge
abbrev pub is_root : List Node → ℕ → Bool
is_root g n = get_or (map (λ x. x.is_root) g) n false

abbrev pub targets : List Node → ℕ → List ℕ
targets g n = get_or (map (λ x. x.targets) g) n []

-- there is an edge from the one node to the other
abbrev pub has_edge : List Node → ℕ → ℕ → Bool
has_edge g m n = list_any (nat_eq n) (targets g m)

-- a list of nodes of which the first is a root, with an edge from each to the next
abbrev pub Follows : List Node → ℕ → List ℕ → Type 0
Follows g m [] = Unit {0}
Follows g m (n ∷ ns) = IsTrue (has_edge g m n) × Follows g n ns

abbrev pub IsPath : List Node → List ℕ → Type 0
IsPath g [] = ⊥
IsPath g (n ∷ ns) = IsTrue (is_root g n) × Follows g n ns

-- the nodes with which the paths of so many edges end
abbrev pub ends : List Node → ℕ → List ℕ
ends g zero = filter (is_root g) (numbers g)
ends g (suc k) = flat_map (targets g) (ends g k)

-- a path of so many edges ends with the node
abbrev pub ends_with : List Node → ℕ → ℕ → Bool
ends_with g n k = list_any (nat_eq n) (ends g k)

-- the least number of edges of a path that ends with the node, where there is one: then it is below the number of nodes
abbrev pub dist : List Node → ℕ → Option ℕ
dist g n = find (ends_with g n) (numbers g)

-- whether a node has this distance
abbrev pub is_at : ℕ → Option ℕ → Bool
is_at d None = false
is_at d (Some e) = nat_eq d e

-- the node before a node at a distance: the first that is nearer by one and has an edge to it
abbrev pub before : List Node → ℕ → ℕ → Option ℕ
before g k n = find (λ m. is_at k (dist g m) && has_edge g m n) (numbers g)

-- a shortest path to a node at this distance
abbrev pub way : List Node → ℕ → ℕ → List ℕ
way g zero n = n ∷ []
way g (suc k) n = unwrap_or (option_map (way g k) (before g k n)) [] ++ n ∷ []
