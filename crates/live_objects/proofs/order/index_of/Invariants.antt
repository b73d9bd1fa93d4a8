use Rattle.std.proofs.Common.{◌≡◌, length}
use Rattle.live_objects.specs.Marks.{AreIndexed}
use Rattle.live_objects.proofs.order.index_of.Given as goal

-- the numbers before this one are indexed
abbrev pub invariant-loop-i : goal.invariant-loop-i
invariant-loop-i l = record {
  count : length l.index.items ≡ 1024;
  found : AreIndexed l.numbers l.index.items l.i;
}
