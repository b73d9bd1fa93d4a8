use Rattle.std.proofs.Common.{◌∙◌, ◌<◌, get_or, sym, arith, false}
use Rattle.std.proofs.lemmas.List.{length-set}
use Rattle.large_objects.specs.declared.rows.LargeRow.{LargeRow}
use Rattle.large_objects.proofs.RowLemmas.{slot-at}
use Rattle.large_objects.proofs.TableLemmas.{found-next}
use Rattle.large_objects.proofs.table.index_rows.Goals as goal

pub loop-i-preserved : goal.loop-i-preserved
loop-i-preserved c =
    let rows = c.args.rows.now in
    let i = c.loop-i.i in
    let d : LargeRow = record { number = 0; slot = 0; bytes = 0; promoted = false; marked = false } in
    let slot = (get_or rows i d).slot in
    let within : slot < 512 = c.requires.rows.within i d c.loop-i-test.true in
    record {
      len = length-set c.loop-i.row_of slot i ∙ c.loop-i.invariant.len;
      found = found-next c.loop-i.row_of rows i slot c.requires.rows.apart c.loop-i-test.true (sym (slot-at rows i d c.loop-i-test.true)) (omega (arith, within, c.loop-i.invariant.len)) c.loop-i.invariant.found;
    }
