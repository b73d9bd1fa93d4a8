use Rattle.std.proofs.Common.{refl, arith}
use Rattle.ah_outside.specs.ShelfRows.{ended_at}
use Rattle.ah_outside.proofs.RowLemmas.{set-last}
use Rattle.ah_outside.proofs.memory_shelf.move_last_end.Goals as goal

pub returns-in-Some-clause-moved : goal.returns-in-Some-clause-moved
returns-in-Some-clause-moved c =
    let some = c.in-Some.ensures.variant.0 refl in
    set-last (ended_at c.args.to) _ _ c.in-Some.row.now (omega arith) c.in-Some.ensures.value
