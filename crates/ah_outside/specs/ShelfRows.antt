-- How a shelf in memory keeps its entries: all bytes one after the other, and a row for each entry that says where it stands.
use Rattle.std.specs.Prelude.{◌≡◌, ℕ, ◌≤◌, List, [], ◌∷◌, slice_range, true}
use Rattle.ah_outside.specs.Outside.{Entry}
use Rattle.ah_outside.specs.declared.memory_shelf.Row.{Row}

-- the entry of a row, cut out of the bytes of all entries
abbrev pub entry_of : List ℕ → Row → Entry
entry_of bytes row = record { name = slice_range bytes row.start row.name_end; bytes = slice_range bytes row.name_end row.end; closed = row.closed }

-- the rows stand one directly after the other, from the one place to the other
abbrev pub IsLaidOut : ℕ → List Row → ℕ → Type 0
IsLaidOut from [] to = from ≡ to
IsLaidOut from (row ∷ rows) to = (row.start ≡ from) × (row.start ≤ row.name_end) × (row.name_end ≤ row.end) × IsLaidOut row.end rows to

-- the row with its end moved
abbrev pub ended_at : ℕ → Row → Row
ended_at to row = record { start = row.start; name_end = row.name_end; end = to; closed = row.closed }

-- the row of an entry that is closed
abbrev pub marked : Row → Row
marked row = record { start = row.start; name_end = row.name_end; end = row.end; closed = true }

-- the rows with another one in place of the last
abbrev pub with_last : (Row → Row) → List Row → List Row
with_last other [] = []
with_last other (row ∷ []) = other row ∷ []
with_last other (row ∷ next ∷ rows) = row ∷ with_last other (next ∷ rows)
