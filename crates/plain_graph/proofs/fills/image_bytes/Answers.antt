use Rattle.std.proofs.Common.{arith}
use Rattle.model_numbers.specs.Numbers.{most_array_bytes}
use Rattle.heap_graph.specs.Graph.{image_size}
use Rattle.plain_graph.proofs.Parts.{image_size-le}
use Rattle.plain_graph.proofs.FormedObjects.{size_small}
use Rattle.plain_graph.proofs.Prefixes.{sum_more}
use Rattle.plain_graph.proofs.fills.image_bytes.Goals as goal

pub loop-o-preserved : goal.loop-o-preserved
loop-o-preserved c =
    let cs = c.args.classes.now in
    let os = c.args.objects.now in
    let o = c.o-item.result in
    let here = image_size-le cs o o.place most_array_bytes (size_small cs os c.loop-o.o-index o c.requires c.loop-o-test.true c.o-item.is) in
    record {
      so_far = omega (arith, sum_more (λ o. image_size cs o o.place) os c.loop-o.o-index o c.loop-o-test.true c.o-item.is);
      small = omega (arith, here);
    }
