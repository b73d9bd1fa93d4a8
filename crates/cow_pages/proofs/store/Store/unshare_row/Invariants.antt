use Rattle.cow_pages.specs.Steps.{UnsharesSome}
use Rattle.cow_pages.proofs.store.Store.unshare_row.Given as goal

abbrev pub invariant-loop-i : goal.invariant-loop-i
invariant-loop-i l = UnsharesSome l.fn.self l.self l.leaf l.i
