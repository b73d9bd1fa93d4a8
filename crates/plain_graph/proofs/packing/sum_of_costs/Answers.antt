use Rattle.std.proofs.Common.{arith}
use Rattle.heap_graph.specs.Packing.{cost}
use Rattle.plain_graph.proofs.FormedObjects.{unrounded_small}
use Rattle.plain_graph.proofs.Parts.{cost-le}
use Rattle.plain_graph.proofs.Prefixes.{sum_more}
use Rattle.plain_graph.proofs.packing.sum_of_costs.Goals as goal

pub loop-o-preserved : goal.loop-o-preserved
loop-o-preserved c =
    let cs = c.args.classes.now in
    let os = c.args.objects.now in
    let o = c.o-item.result in
    let here = cost-le cs o o.place (unrounded_small cs os c.loop-o.o-index o c.requires c.loop-o-test.true c.o-item.is) in
    record {
      so_far = omega (arith, sum_more (λ o. cost cs o o.place) os c.loop-o.o-index o c.loop-o-test.true c.o-item.is);
      small = omega (arith, here);
    }
