use Rattle.cow_pages.specs.Steps.{SharesLeaves}
use Rattle.cow_pages.proofs.tables.share_all.Given as goal

abbrev pub invariant-loop-leaf : goal.invariant-loop-leaf
invariant-loop-leaf l = SharesLeaves l.fn.counts l.counts l.leaves l.leaf-index
