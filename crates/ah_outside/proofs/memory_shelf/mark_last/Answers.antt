use Rattle.std.proofs.Common.{refl, arith}
use Rattle.ah_outside.specs.ShelfRows.{marked}
use Rattle.ah_outside.proofs.RowLemmas.{set-last}
use Rattle.ah_outside.proofs.memory_shelf.mark_last.Goals as goal

pub returns-in-Some-clause-marked : goal.returns-in-Some-clause-marked
returns-in-Some-clause-marked c =
    let some = c.in-Some.ensures.variant.0 refl in
    set-last marked _ _ c.in-Some.row.now (omega arith) c.in-Some.ensures.value
