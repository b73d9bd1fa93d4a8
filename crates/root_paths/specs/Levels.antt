-- How the nodes are reached, level by level. These are words of the code.
use Rattle.std.specs.Prelude.{◌≡◌, ℕ, suc, ◌+◌, ◌<◌, ◌≤◌, Bool, ◌&&◌, ◌||◌, nat_eq, min, List, ◌∷◌, ◌++◌, reverse, length, get_or, Option, None, Some, is_some, is_none, count_by, All, if◌then◌else◌}
use Rattle.std.specs.List.{list_any, find, range_with_len}
use Rattle.std.specs.Option.{option_or}
use Rattle.dump_graph.specs.Graph.{Node}
use Rattle.root_paths.specs.Paths.{numbers, is_root, has_edge, ends_with, dist, is_at, before, way}
use Rattle.root_paths.specs.declared.levels.Reach.{Reach}

-- the least number of edges, up to d, of a path that ends with the node
abbrev pub dist_within : List Node → ℕ → ℕ → Option ℕ
dist_within g d n = find (ends_with g n) (range_with_len 0 (suc d))

-- the level of a node, and the node before it, as they are kept
abbrev pub level_of : Option Reach → Option ℕ
level_of None = None
level_of (Some r) = Some r.level

abbrev pub before_of : Option Reach → Option ℕ
before_of None = None
before_of (Some r) = Some r.before

-- the reach of a root
abbrev pub root_reach : List Node → ℕ → Option Reach
root_reach g n = if is_root g n then Some (record { level = 0; before = n }) else None

-- a node's reach at a level once another node leads to it: the least of those that do counts
abbrev pub led : ℕ → ℕ → Option Reach → Option Reach
led level m None = Some (record { level = level; before = m })
led level m (Some r) = if nat_eq r.level level then Some (record { level = level; before = min m r.before }) else Some r

abbrev pub led_if : Bool → ℕ → ℕ → Option Reach → Option Reach
led_if leads level m r = if leads then led level m r else r

-- the first in order of some nodes that has an edge to the node, and the reach by it
abbrev pub first_of : List Node → List ℕ → ℕ → Option ℕ
first_of g from n = find (λ m. list_any (nat_eq m) from && has_edge g m n) (numbers g)

abbrev pub reach_by : ℕ → Option ℕ → Option Reach
reach_by level None = None
reach_by level (Some m) = Some (record { level = level; before = m })

-- a node led to its targets: they are reached at the level, and those that were not reached before are put behind the others
pub record Led (level m : ℕ) (targets : List ℕ) (old : List (Option Reach)) (next_old : List ℕ) (new : List (Option Reach)) (next_new : List ℕ) : Type 0 where
  pub as_many : length new ≡ length old
  pub reached : (n : ℕ) → get_or new n None ≡ led_if (list_any (nat_eq n) targets) level m (get_or old n None)
  pub added : (n : ℕ) → list_any (nat_eq n) next_new ≡ (list_any (nat_eq n) next_old || (is_none (get_or old n None) && list_any (nat_eq n) targets))
  pub counted : count_by is_some new + length next_old ≡ count_by is_some old + length next_new

-- some nodes led to the next level: what was not reached before is reached from the first of them that has an edge to it
pub record MadeLevel (g : List Node) (level : ℕ) (from : List ℕ) (old new : List (Option Reach)) (next : List ℕ) : Type 0 where
  pub as_many : length new ≡ length old
  pub reached : (n : ℕ) → get_or new n None ≡ option_or (get_or old n None) (reach_by level (first_of g from n))
  pub added : (n : ℕ) → list_any (nat_eq n) next ≡ (is_none (get_or old n None) && is_some (first_of g from n))
  pub counted : count_by is_some new ≡ count_by is_some old + length next

-- what is reached has a lower level
abbrev pub IsBelow : ℕ → List (Option Reach) → Type 0
IsBelow level reached = (n : ℕ) (r : Reach) → get_or reached n None ≡ Some r → r.level < level

-- the nodes are reached up to a distance, and those at it are listed
pub record ReachedTo (g : List Node) (d : ℕ) (reached : List (Option Reach)) (from : List ℕ) : Type 0 where
  pub as_many : length reached ≡ length g
  pub levels : (n : ℕ) → n < length g → level_of (get_or reached n None) ≡ dist_within g d n
  pub befores : (n k : ℕ) → n < length g → dist_within g d n ≡ Some (suc k) → before_of (get_or reached n None) ≡ before g k n
  pub last : (n : ℕ) → list_any (nat_eq n) from ≡ is_at d (level_of (get_or reached n None))
  pub few : d + length from ≤ count_by is_some reached

-- the nodes are reached: each by its distance, and from the first node before it
pub record AreReached (g : List Node) (reached : List (Option Reach)) : Type 0 where
  pub as_many : length reached ≡ length g
  pub levels : (n : ℕ) → n < length g → level_of (get_or reached n None) ≡ dist g n
  pub befores : (n k : ℕ) → n < length g → dist g n ≡ Some (suc k) → before_of (get_or reached n None) ≡ before g k n

-- these are numbers of nodes
abbrev pub AreNodes : List Node → List ℕ → Type 0
AreNodes g ns = All (λ n. n < length g) ns

-- the nodes of a graph are reached, and one of them at a level
pub record IsReachedAt (g : List Node) (reached : List (Option Reach)) (level n : ℕ) : Type 0 where
  pub all : AreReached g reached
  pub within : n < length g
  pub distance : dist g n ≡ Some level

-- these are the last nodes of the path to a node, from the last one back: before the first of them so many are left
pub record IsWayBack (reached : List (Option Reach)) (level n left at : ℕ) (back : List ℕ) : Type 0 where
  pub rest : List ℕ
  pub behind : reverse back ≡ at ∷ rest
  pub nodes : All (λ m. m < length reached) back
  pub reached_at : (g : List Node) → IsReachedAt g reached level n → IsReachedAt g reached left at
  pub goes_on : (g : List Node) → IsReachedAt g reached level n → way g left at ++ rest ≡ way g level n
