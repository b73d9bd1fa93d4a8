use Rattle.std.proofs.Common.{arith}
use Rattle.std.proofs.lemmas.Grind.{common_steps}
use Rattle.plain_graph.proofs.Reaching.{roots_more}
use Rattle.plain_graph.proofs.reach.root_targets.Goals as goal

pub loop-r-preserved : goal.loop-r-preserved
loop-r-preserved c =
    let more = roots_more c.args.roots.now c.loop-r.r-index c.r-item.result c.loop-r-test.true c.r-item.is in
    grind (arith, common_steps, more)
