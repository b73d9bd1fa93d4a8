use Rattle.std.proofs.Common.{◌∙◌, ◌<◌, get_or, arith}
use Rattle.std.proofs.lemmas.List.{length-set}
use Rattle.live_objects.proofs.OrderLemmas.{indexed-more}
use Rattle.live_objects.proofs.order.index_of.Goals as goal

pub loop-i-preserved : goal.loop-i-preserved
loop-i-preserved c =
    let numbers = c.args.numbers.now in
    let i = c.loop-i.i in
    let small : get_or numbers i 0 < 1024 = c.requires.within i 0 c.loop-i-test.true in
    record {
      count = length-set c.loop-i.index.items (get_or numbers i 0) i ∙ c.loop-i.invariant.count;
      found = indexed-more numbers c.loop-i.index.items i c.requires.apart c.loop-i-test.true (omega (arith, small, c.loop-i.invariant.count)) c.loop-i.invariant.found;
    }
