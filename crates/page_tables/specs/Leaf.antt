-- The entries of a leaf.
use Rattle.std.specs.Prelude.{ℕ, ⊤, ◌+◌, ◌-◌, ◌<◌, ◌^◌, false, List, [], ◌∷◌, Option, Some, None, option_map, replicate, if◌then◌else◌}
use Rattle.page_tables.specs.Address.{leaf_pages}
use Rattle.page_tables.specs.declared.leaf.Entry.{Entry}

-- what a contract sees of a leaf: the entry of each slot, and how many are there
pub record Leaf : Type 0 where
  pub entries : List (Option Entry)
  pub mapped : ℕ

-- an entry whose frame's number is below 4,294,967,295, or none
abbrev pub Fits : Option Entry → Type 0
Fits None = ⊤
Fits (Some e) = e.frame < 2 ^ 32 - 1

-- a leaf without a mapped page
abbrev pub no_leaf : Leaf
no_leaf = record { entries = replicate leaf_pages None; mapped = 0 }

-- 1 where an entry is there
abbrev pub one_mapped : Option Entry → ℕ
one_mapped None = 0
one_mapped (Some e) = 1

-- 1 where an entry is there and has its flag set
abbrev pub one_written : Option Entry → ℕ
one_written None = 0
one_written (Some e) = if e.written then 1 else 0

-- how many entries are there
abbrev pub present : List (Option Entry) → ℕ
present [] = 0
present (o ∷ rest) = one_mapped o + present rest

-- the entry without its flag
abbrev pub cleared : Option Entry → Option Entry
cleared entry = option_map (λ (it : Entry). record it { written = false }) entry
