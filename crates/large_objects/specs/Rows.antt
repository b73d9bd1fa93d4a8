-- Large objects: each has a slot of its own, and a row that says which object it is.
use Rattle.std.specs.Prelude.{◌≡◌, ℕ, ◌+◌, ◌*◌, ◌<◌, ◌≤◌, ◌==◌, Bool, true, false, ◌||◌, not, List, [], ◌∷◌, ◌++◌, map, sum, All, Option, None, Some, if◌then◌else◌, nat_eq}
use Rattle.std.specs.List.{list_any, filter, IsDistinct}
use Rattle.model_numbers.specs.Numbers.{large_base, large_slot_bytes, large_slot_count, region_bytes}
use Rattle.heap_graph.specs.Sizes.{parts_for}
use Rattle.large_objects.specs.declared.rows.LargeRow.{LargeRow}

-- numbers rise, each from low on
abbrev pub AreRising : ℕ → List LargeRow → Type 0
AreRising low [] = Unit {0}
AreRising low (row ∷ rest) = (low ≤ row.number) × AreRising (row.number + 1) rest

-- how many bytes an object in a slot may have
pub record IsBytes (bytes : ℕ) : Type 0 where
  pub some : 1 ≤ bytes
  pub most : bytes ≤ large_slot_bytes

-- what holds of the rows: they stand by rising number, each in a slot of its own
pub record AreRows (rows : List LargeRow) : Type 0 where
  pub rising : AreRising 0 rows
  pub apart : IsDistinct nat_eq (map (λ row. row.slot) rows)
  pub within : All (λ row. row.slot < large_slot_count) rows
  pub bytes : All (λ row. IsBytes row.bytes) rows

-- the address of a slot's first byte
abbrev pub slot_base : ℕ → ℕ
slot_base slot = large_base + slot * large_slot_bytes

-- the row of the slot that begins at an address
abbrev pub row_at : List LargeRow → ℕ → Option LargeRow
row_at [] at = None
row_at (row ∷ rest) at = if slot_base row.slot == at then Some row else row_at rest at

-- how many regions a row costs
abbrev pub cost_of : LargeRow → ℕ
cost_of row = parts_for region_bytes row.bytes

abbrev pub costs_of : List LargeRow → ℕ
costs_of rows = sum (map cost_of rows)

-- a row's object has the slot
abbrev pub has_slot : ℕ → LargeRow → Bool
has_slot slot row = row.slot == slot

-- an object was placed in a slot that no row had: one row more, the last
pub record Places (old new : List LargeRow) (at number bytes : ℕ) : Type 0 where
  pub slot : ℕ
  pub within : slot < large_slot_count
  pub fresh : list_any (has_slot slot) old ≡ false
  pub spot : at ≡ slot_base slot
  pub rows : new ≡ old ++ record { number = number; slot = slot; bytes = bytes; promoted = false; marked = false } ∷ []

-- the row of the slot at an address is marked, every other stays
abbrev pub marked_at : ℕ → LargeRow → LargeRow
marked_at at row = if slot_base row.slot == at then record row { marked = true } else row

-- a fork promotes a row
abbrev pub promoted_row : LargeRow → LargeRow
promoted_row row = record row { promoted = true }

-- no fork has promoted a row's object yet
abbrev pub waits : LargeRow → Bool
waits row = not row.promoted

-- a sweep keeps a row that is promoted or marked
abbrev pub stays : LargeRow → Bool
stays row = row.promoted || row.marked

-- and clears its mark
abbrev pub cleared : LargeRow → LargeRow
cleared row = record row { marked = false }

abbrev pub swept : List LargeRow → List LargeRow
swept rows = map cleared (filter stays rows)

-- the rows that a sweep removes
abbrev pub goes : LargeRow → Bool
goes row = not (stays row)

abbrev pub dead : List LargeRow → List LargeRow
dead rows = filter goes rows
