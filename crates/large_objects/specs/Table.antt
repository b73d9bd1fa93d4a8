-- What a table of large objects keeps besides its rows. No public clause cites this module.
use Rattle.std.specs.Prelude.{◌≡◌, ℕ, ◌+◌, ◌<◌, if◌then◌else◌, List, length, map, slice_index}
use Rattle.std.specs.List.{list_any}
use Rattle.model_numbers.specs.Numbers.{large_slot_count}
use Rattle.sharers.specs.Shares.{Shares, count_of}
use Rattle.large_objects.specs.declared.table.Table.{Table}
use Rattle.large_objects.specs.declared.rows.LargeRow.{LargeRow}
use Rattle.large_objects.specs.Rows.{AreRows, costs_of, has_slot}

-- the slot of the row of a number
abbrev pub slot_of : List LargeRow → ℕ → ℕ
slot_of rows i = slice_index (map (λ (row : LargeRow). row.slot) rows) i

-- each row is found by its slot
abbrev pub AreFound : List ℕ → List LargeRow → Type 0
AreFound row_of rows = (i : ℕ) → i < length rows → slice_index row_of (slot_of rows i) ≡ i

-- the slots of these rows are taken, and no other, and the cost is theirs
pub record TakesSlots (slots : Shares) (total : ℕ) (rows : List LargeRow) : Type 0 where
  pub len : length slots.counts ≡ large_slot_count
  pub spare : slots.spare + length rows ≡ large_slot_count
  pub taken : (slot : ℕ) → count_of slots slot ≡ (if list_any (has_slot slot) rows then 1 else 0)
  pub cost : total ≡ costs_of rows

-- what holds of each table
pub record IsTable (s : Table) : Type 0 where
  pub rows : AreRows s.rows.items
  pub slots : TakesSlots s.slots s.cost s.rows.items
  pub len : length s.row_of.items ≡ large_slot_count
  pub found : AreFound s.row_of.items s.rows.items
