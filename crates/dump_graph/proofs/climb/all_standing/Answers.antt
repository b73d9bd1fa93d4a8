use Rattle.std.proofs.Common.{arith, zero-add}
use Rattle.std.proofs.lemmas.Grind.{common_steps}
use Rattle.std.proofs.lemmas.List.FromFn.{map-range_with_len_more}
use Rattle.dump_graph.specs.Climbing.{standing}
use Rattle.dump_graph.proofs.climb.all_standing.Goals as goal

pub loop-class-preserved : goal.loop-class-preserved
loop-class-preserved c =
    let k = c.loop-class.class in
    let more = map-range_with_len_more standing 0 k k (zero-add k) in
    grind (arith, common_steps, more)
