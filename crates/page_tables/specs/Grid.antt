-- Rows of places that may be empty, and how many places have a key. No public clause cites this module.
use Rattle.std.specs.Prelude.{ℕ, ◌+◌, ◌==◌, if◌then◌else◌, List, [], ◌∷◌, Option, Some, None, slice_index_or}

-- what stands in a row at a column
abbrev pub cell : {E : Type 0} → List (List (Option E)) → ℕ → ℕ → Option E
cell g r c = slice_index_or (slice_index_or g r []) c None

-- 1 where a key is this one
abbrev pub one : ℕ → ℕ → ℕ
one a x = if a == x then 1 else 0

-- 1 where a place has an entry of this key
abbrev pub one_held : {E : Type 0} → (E → ℕ) → Option E → ℕ → ℕ
one_held key None x = 0
one_held key (Some e) x = one (key e) x

-- how many places of a row have this key
abbrev pub held : {E : Type 0} → (E → ℕ) → List (Option E) → ℕ → ℕ
held key [] x = 0
held key (o ∷ rest) x = one_held key o x + held key rest x

-- how many places of all rows
abbrev pub all_held : {E : Type 0} → (E → ℕ) → List (List (Option E)) → ℕ → ℕ
all_held key [] x = 0
all_held key (row ∷ rest) x = held key row x + all_held key rest x
