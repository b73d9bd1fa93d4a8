use Rattle.std.proofs.Common.{arith}
use Rattle.heap_graph.specs.Graph.{zygote_end}
use Rattle.plain_graph.proofs.Prefixes.{greatest_more}
use Rattle.plain_graph.proofs.fills.greatest_end.Goals as goal

pub loop-o-preserved : goal.loop-o-preserved
loop-o-preserved c =
    let cs = c.args.classes.now in
    record {
      so_far = omega (arith, greatest_more (λ o. zygote_end cs o o.place) c.args.objects.now c.loop-o.o-index c.o-item.result c.loop-o-test.true c.o-item.is);
      small = omega arith;
    }
