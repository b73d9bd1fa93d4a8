-- Where roots stand: places in the order of first writing, of which some are holes.
use Rattle.std.specs.Prelude.{◌≡◌, ◌+◌, ◌≤◌, ⊤, ℕ, suc, Bool, true, false, List, [], ◌∷◌, Option, None, Some, length, vec_capacity}
use Rattle.std.specs.Option.{option_map}
use Rattle.indexmap.specs.IndexMap.{get, spare, index_map_len}
use Rattle.page_tables.specs.declared.address.Addr.{Addr}
use Rattle.class_layout.specs.Names.{same_name}
use Rattle.root_list.specs.declared.root.RootAt.{RootAt}
use Rattle.root_list.specs.declared.table.Table.{Table}
use Rattle.root_list.specs.Roots.{RootList}

-- the roots at the places that are no holes, in their order
abbrev pub roots_of : List (Option (List ℕ)) → List Addr → List RootAt
roots_of [] ats = []
roots_of (n ∷ ns) [] = []
roots_of (None ∷ ns) (at ∷ ats) = roots_of ns ats
roots_of (Some n ∷ ns) (at ∷ ats) = record { name = n; holds = at } ∷ roots_of ns ats

-- the addresses at the places that are no holes, in their order
abbrev pub kept_of : List (Option (List ℕ)) → List Addr → List Addr
kept_of [] ats = []
kept_of (n ∷ ns) [] = []
kept_of (None ∷ ns) (at ∷ ats) = kept_of ns ats
kept_of (Some n ∷ ns) (at ∷ ats) = at ∷ kept_of ns ats

-- a place has the name
abbrev pub named : List ℕ → Option (List ℕ) → Bool
named name None = false
named name (Some n) = same_name n name

abbrev pub first_if : Bool → Option ℕ → Option ℕ
first_if true o = Some 0
first_if false o = option_map suc o

-- the first place that has the name
abbrev pub place_of : List (Option (List ℕ)) → List ℕ → Option ℕ
place_of [] name = None
place_of (p ∷ ps) name = first_if (named name p) (place_of ps name)

-- no place further on has the name of this one
abbrev pub IsFresh : Option (List ℕ) → List (Option (List ℕ)) → Type 0
IsFresh None ps = ⊤
IsFresh (Some n) ps = place_of ps n ≡ None

-- each name stands at one place
abbrev pub AreApart : List (Option (List ℕ)) → Type 0
AreApart [] = ⊤
AreApart (p ∷ ps) = IsFresh p ps × AreApart ps

-- the roots that a table stands for
abbrev pub roots_in : Table → List RootAt
roots_in t = roots_of t.names.items t.addresses.items

-- what a caller sees of a table
abbrev pub seen : Table → RootList
seen t = record { roots = roots_in t; ready = t.ready }

-- one more root fits
pub record HasRoom (t : Table) : Type 0 where
  pub index : 1 ≤ spare t.index
  pub names : length t.names.items + 1 ≤ vec_capacity t.names
  pub addresses : length t.addresses.items + 1 ≤ vec_capacity t.addresses

-- each name has its place in the index, and there are no others
pub record IsTable (t : Table) : Type 0 where
  pub long : length t.names.items ≡ length t.addresses.items
  pub apart : AreApart t.names.items
  pub found : (name : List ℕ) → get same_name t.index name ≡ place_of t.names.items name
  pub count : index_map_len t.index ≡ length (roots_in t)
  pub room : t.ready ≡ true → HasRoom t
