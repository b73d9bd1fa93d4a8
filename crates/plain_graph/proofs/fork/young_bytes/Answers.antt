use Rattle.std.proofs.Common.{arith}
use Rattle.heap_graph.specs.Graph.{size_of_object}
use Rattle.plain_graph.proofs.FormedObjects.{size_small}
use Rattle.plain_graph.proofs.SpotLemmas.{spot_more, next_spot-le}
use Rattle.plain_graph.proofs.fork.young_bytes.Goals as goal

pub loop-o-preserved : goal.loop-o-preserved
loop-o-preserved c =
    let cs = c.args.classes.now in
    let os = c.args.objects.now in
    let o = c.o-item.result in
    record {
      so_far = omega (arith, spot_more cs os c.loop-o.o-index o c.loop-o.bytes c.loop-o-test.true c.o-item.is, c.next_spot-bytes.ensures);
      small = omega (arith, next_spot-le c.loop-o.bytes (size_of_object cs o) o.place, size_small cs os c.loop-o.o-index o c.requires c.loop-o-test.true c.o-item.is);
    }
