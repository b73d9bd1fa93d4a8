use Rattle.cow_pages.specs.Steps.{Settling}
use Rattle.cow_pages.proofs.store.Store.settle.Given as goal

abbrev pub invariant-loop-i : goal.invariant-loop-i
invariant-loop-i l = Settling l.fn.self l.self l.t l.i
