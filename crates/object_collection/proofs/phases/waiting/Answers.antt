use Rattle.std.proofs.Common.{◌∙◌, ℕ, Bool, cond, false, filter, length, refl, ap, arith, List}
use Rattle.std.specs.Prelude.{not}
use Rattle.std.proofs.lemmas.List.{take_all}
use Rattle.large_objects.specs.declared.rows.LargeRow.{LargeRow}
use Rattle.large_objects.specs.Rows.{waits}
use Rattle.object_collection.proofs.Marked.{filter-next, rows-few}
use Rattle.object_collection.proofs.phases.waiting.Goals.{then-not-row, else-not-row}
use Rattle.object_collection.proofs.phases.waiting.Goals as goal

abbrev none : LargeRow
none = record { number = 0; slot = 0; bytes = 0; promoted = false; marked = false }

pub loop-row-init : goal.loop-row-init
loop-row-init c = record { counted = refl; few = omega arith }

pub overflow_add-count : goal.overflow_add-count
overflow_add-count c =
    let same = ap length c.rows-row-items.ensures.rows in
    omega (arith, rows-few c.args.larges.now c.rows-row-items.ensures.are_rows, same, c.loop-row.invariant.few, c.loop-row-test.true)

pub loop-row-preserved : goal.loop-row-preserved
loop-row-preserved c =
    let next = filter-next waits c.rows-row-items.result.now c.loop-row.row-index none c.loop-row-test.true in
    elim c.if-not-row.branch [
      | then-not-row w ↦
          let one = ap (λ (b : Bool). cond {A = ℕ} (not b) 1 0) w.if-not-row.true in
          record { counted = omega (arith, next, one, w.count-is, c.loop-row.invariant.counted); few = omega (arith, w.count-is, c.loop-row.invariant.few) }
      | else-not-row w ↦
          let zero = ap (λ (b : Bool). cond {A = ℕ} (not b) 1 0) w.if-not-row.false in
          record { counted = omega (arith, next, zero, w.count-is, c.loop-row.invariant.counted); few = omega (arith, w.count-is, c.loop-row.invariant.few) }
    ]

pub returns-clause-value : goal.returns-clause-value
returns-clause-value c =
    c.loop-row.invariant.counted
    ∙ ap (λ (rows : List LargeRow). length (filter waits rows)) (take_all c.loop-row.row-index c.rows-row-items.result.now (omega arith) ∙ c.rows-row-items.ensures.rows)

pub returns-clause-few : goal.returns-clause-few
returns-clause-few c =
    let same = ap length c.rows-row-items.ensures.rows in
    omega (arith, rows-few c.args.larges.now c.rows-row-items.ensures.are_rows, same, c.loop-row.invariant.few)
