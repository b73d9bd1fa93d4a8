-- What is told of an identifier and the roots.
use Rattle.std.specs.Prelude.{ℕ, Bool, true, nat_le, List, [], ◌∷◌, ◌++◌, map, get_or, Option, None, Some, codes, decimal, if◌then◌else◌}
use Rattle.std.specs.List.{concat, flat_map}
use Rattle.hprof_list.specs.Listing.{id_text}
use Rattle.dump_graph.specs.Graph.{Node, number_of}
use Rattle.root_paths.specs.Paths.{numbers, dist, way}

-- the identifier of a node
abbrev pub id_at : List Node → ℕ → ℕ
id_at g n = get_or (map (λ x. x.id) g) n 0

-- the line of a node of a path
abbrev pub node_line : List Node → ℕ → List ℕ
node_line g n = concat (id_text (id_at g n) ∷ codes "\n" ∷ [])

-- the line of a node and its distance, where it has one up to the limit
abbrev pub is_within : Option ℕ → ℕ → Bool
is_within None d = true
is_within (Some limit) d = nat_le d limit

abbrev pub level_line : Option ℕ → ℕ → Option ℕ → List ℕ
level_line limit id None = []
level_line limit id (Some d) =
    if is_within limit d then concat (codes "level " ∷ decimal d ∷ codes " " ∷ id_text id ∷ codes "\n" ∷ []) else []

-- the lines of the nodes with a distance up to the limit, in order
abbrev pub level_lines : List Node → Option ℕ → List ℕ
level_lines g limit = flat_map (λ n. level_line limit (id_at g n) (dist g n)) (numbers g)

-- where no node has the identifier
abbrev pub no_node_line : ℕ → List ℕ
no_node_line id = concat (codes "no node " ∷ id_text id ∷ codes "\n" ∷ [])

-- a shortest path to a node at this distance, and the distances up to it; or that there is none, and all distances
abbrev pub node_answer : List Node → ℕ → Option ℕ → List ℕ
node_answer g n None = codes "no path\n" ++ level_lines g None
node_answer g n (Some k) =
    concat (codes "path " ∷ decimal k ∷ codes "\n" ∷ []) ++ (flat_map (node_line g) (way g k n) ++ level_lines g (Some k))

abbrev pub number_answer : List Node → ℕ → Option ℕ → List ℕ
number_answer g id None = no_node_line id
number_answer g id (Some n) = node_answer g n (dist g n)

-- what is told of an identifier
abbrev pub answer : List Node → ℕ → List ℕ
answer g id = number_answer g id (number_of g id)
