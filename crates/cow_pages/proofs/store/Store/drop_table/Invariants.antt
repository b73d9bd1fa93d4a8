use Rattle.cow_pages.specs.Steps.{Ending}
use Rattle.cow_pages.proofs.store.Store.drop_table.Given as goal

abbrev pub invariant-loop-i : goal.invariant-loop-i
invariant-loop-i l = Ending l.fn.self l.self l.t l.i
