use Rattle.std.proofs.Common.{◌≡◌, ◌++◌, map, take, drop}
use Rattle.large_objects.specs.Rows.{promoted_row}
use Rattle.large_objects.proofs.table.promote.Given as goal

-- the rows before this one are promoted
abbrev pub invariant-loop-row : goal.invariant-loop-row
invariant-loop-row l = l.rows ≡ map promoted_row (take l.row-index l.fn.rows) ++ drop l.row-index l.fn.rows
