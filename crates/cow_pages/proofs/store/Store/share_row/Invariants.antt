use Rattle.cow_pages.specs.Steps.{SharesSome}
use Rattle.cow_pages.proofs.store.Store.share_row.Given as goal

abbrev pub invariant-loop-i : goal.invariant-loop-i
invariant-loop-i l = SharesSome l.fn.self l.self l.leaf l.i
