use Rattle.std.proofs.Common.{◌≡◌, ℕ, ◌<◌, length, get_or}
use Rattle.large_objects.specs.Table.{slot_of}
use Rattle.large_objects.proofs.table.index_rows.Given as goal

-- the rows before this one are found
abbrev pub invariant-loop-i : goal.invariant-loop-i
invariant-loop-i l = record {
  len : length l.row_of ≡ 512;
  found : (k : ℕ) → k < l.i → get_or l.row_of (slot_of l.rows k) 0 ≡ k;
}
