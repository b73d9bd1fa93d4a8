use Rattle.std.proofs.Common.{◌≡◌, ◌++◌, map, take, drop}
use Rattle.large_objects.specs.Rows.{cleared}
use Rattle.large_objects.proofs.table.clear_marks.Given as goal

-- the marks before this row are cleared
abbrev pub invariant-loop-row : goal.invariant-loop-row
invariant-loop-row l = l.rows ≡ map cleared (take l.row-index l.fn.rows) ++ drop l.row-index l.fn.rows
