-- Which objects are reached. Round by round, and a law says that this is the end of a path of strong slots.
use Rattle.std.specs.Prelude.{ℕ, zero, suc, Bool, ◌||◌, List, [], ◌++◌, map, filter, length, nat_eq}
use Rattle.std.specs.List.{list_any, flat_map}
use Rattle.heap_graph.specs.Graph.{Object, Graph, is_immune}
use Rattle.heap_graph.specs.Values.{targets, held_targets, strong_slots}

-- an object as reaching sees it: its number, whether it is immune, and the objects that its strong slots hold
pub record Node : Type 0 where
  pub number : ℕ
  pub immune : Bool
  pub targets : List ℕ

abbrev pub node_of : Bool → Object → Node
node_of sealed o = record { number = o.number; immune = is_immune sealed o.place; targets = targets (strong_slots o.slots) }

abbrev pub nodes : Graph → List Node
nodes g = map (node_of g.sealed) g.objects

-- a number stands in a list
abbrev pub is_among : List ℕ → ℕ → Bool
is_among ns n = list_any (nat_eq n) ns

-- what the roots and the immune objects hold
abbrev pub starts : Graph → List ℕ
starts g = held_targets (map (λ r. r.holds) g.roots) ++ flat_map (λ v. v.targets) (filter (λ v. v.immune) (nodes g))

-- what the members of a set hold
abbrev pub held_by : List Node → List ℕ → List ℕ
held_by vs seen = flat_map (λ v. v.targets) (filter (λ v. is_among seen v.number) vs)

-- the numbers that are among the starts or among what is held
abbrev pub joined : List ℕ → List ℕ → List ℕ → List ℕ
joined from held ns = filter (λ n. is_among from n || is_among held n) ns

-- the objects that a start or a member holds
abbrev pub next_round : List Node → List ℕ → List ℕ → List ℕ
next_round vs from seen = joined from (held_by vs seen) (map (λ v. v.number) vs)

-- the objects at the end of a path of at most so many members
abbrev pub round : List Node → List ℕ → ℕ → List ℕ
round vs from zero = []
round vs from (suc k) = next_round vs from (round vs from k)

-- as many rounds as there are objects reach all that is reached
abbrev pub reached_from : List Node → List ℕ → List ℕ
reached_from vs from = round vs from (length vs)

abbrev pub reached : Graph → List ℕ
reached g = reached_from (nodes g) (starts g)
