use Rattle.std.proofs.Common.{false, get_or, arith}
use Rattle.std.proofs.lemmas.List.{get_or_default}
use Rattle.std.proofs.lemmas.List.Edits.{map_over_more}
use Rattle.large_objects.specs.declared.rows.LargeRow.{LargeRow}
use Rattle.large_objects.specs.Rows.{cleared}
use Rattle.large_objects.proofs.table.clear_marks.Goals as goal

pub loop-row-preserved : goal.loop-row-preserved
loop-row-preserved c =
    let rows = c.loop-row.rows in
    let i = c.loop-row.row-index in
    let d : LargeRow = record { number = 0; slot = 0; bytes = 0; promoted = false; marked = false } in
    map_over_more cleared c.args.rows.now rows i (get_or rows i d) (omega arith) c.loop-row.invariant (get_or_default rows i d (get_or rows i d) (omega arith))
