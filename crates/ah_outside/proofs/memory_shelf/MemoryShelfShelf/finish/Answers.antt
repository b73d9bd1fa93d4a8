use Rattle.std.proofs.Common.{arith}
use Rattle.ah_outside.proofs.RowLemmas.{IsLaidOut-marked, length-with_last, entries-marked}
use Rattle.ah_outside.specs.ShelfRows.{marked}
use Rattle.ah_outside.proofs.memory_shelf.MemoryShelfShelf.finish.Goals as goal

pub invariant_of-self-2 : goal.invariant_of-self-2
invariant_of-self-2 c =
    let laid = IsLaidOut-marked 0 c.self.inside.rows.items _ c.self.invariant.0 in
    let count = length-with_last marked c.self.inside.rows.items in
    rw (c.mark_last.ensures.marked) (laid, c.self.invariant.1, c.self.invariant.2, omega (arith, c.self.invariant.3), omega (arith, c.mark_last.ensures.capacity, c.self.invariant.4))

pub returns-clause-state : goal.returns-clause-state
returns-clause-state c = rw (← c.self.view_is, c.mark_last.ensures.marked, entries-marked, c.count_call.ensures)
