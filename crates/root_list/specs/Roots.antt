-- The roots of a process: names with the addresses of what they hold.
use Rattle.std.specs.Prelude.{ℕ, Bool, true, false, not, List, [], ◌∷◌, ◌++◌, Option, None, Some, filter, map}
use Rattle.std.specs.List.{find, list_any}
use Rattle.page_tables.specs.declared.address.Addr.{Addr}
use Rattle.class_layout.specs.Names.{same_name}
use Rattle.root_list.specs.declared.root.RootAt.{RootAt}

-- the roots in the order in which they were first written, and whether one more can be written without memory
pub record RootList : Type 0 where
  pub roots : List RootAt
  pub ready : Bool

-- a root of the name is there
abbrev pub is_root : List RootAt → List ℕ → Bool
is_root roots name = list_any (λ (r : RootAt). same_name r.name name) roots

-- what the root holds
abbrev pub holds_in : Option RootAt → Option Addr
holds_in None = None
holds_in (Some r) = Some r.holds

-- what the root of a name holds, where it is there
abbrev pub held_at : List RootAt → List ℕ → Option Addr
held_at roots name = holds_in (find (λ (r : RootAt). same_name r.name name) roots)

abbrev pub hold_if : Bool → RootAt → Addr → RootAt
hold_if true r at = record r { holds = at }
hold_if false r at = r

-- the root of a name holds something else, in its place
abbrev pub with_held : List RootAt → List ℕ → Addr → List RootAt
with_held roots name at = map (λ (r : RootAt). hold_if (same_name r.name name) r at) roots

abbrev pub with_root_if : Bool → List RootAt → List ℕ → Addr → List RootAt
with_root_if true roots name at = with_held roots name at
with_root_if false roots name at = roots ++ record { name = name; holds = at } ∷ []

-- a root is written: in its old place, or last
abbrev pub with_root : List RootAt → List ℕ → Addr → List RootAt
with_root roots name at = with_root_if (is_root roots name) roots name at

-- a root leaves the list
abbrev pub without_root : List RootAt → List ℕ → List RootAt
without_root roots name = filter (λ (r : RootAt). not (same_name r.name name)) roots

-- the addresses that roots hold, in their order
abbrev pub held_by_all : List RootAt → List Addr
held_by_all roots = map (λ (r : RootAt). r.holds) roots

-- the roots hold these addresses instead, in their order
abbrev pub holding : List RootAt → List Addr → List RootAt
holding [] ats = []
holding (r ∷ rs) [] = r ∷ rs
holding (r ∷ rs) (at ∷ ats) = record r { holds = at } ∷ holding rs ats
