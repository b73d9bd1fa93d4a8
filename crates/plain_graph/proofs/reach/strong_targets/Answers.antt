use Rattle.std.proofs.Common.{arith}
use Rattle.std.proofs.lemmas.Grind.{common_steps}
use Rattle.plain_graph.proofs.Reaching.{strong_more, weak_more}
use Rattle.plain_graph.proofs.reach.strong_targets.Goals as goal
use Rattle.plain_graph.proofs.reach.strong_targets.Goals.{then-is_strong+in_ok-push_target, else-is_strong}

pub loop-s-preserved : goal.loop-s-preserved
loop-s-preserved c =
    elim c.if-is_strong.branch [
      | then-is_strong+in_ok-push_target w ↦
          let more = strong_more c.args.slots.now c.loop-s.s-index _ c.loop-s-test.true w.if-is_strong.true in
          grind (arith, common_steps, more)
      | else-is_strong w ↦
          let more = weak_more c.args.slots.now c.loop-s.s-index _ c.loop-s-test.true w.if-is_strong.false in
          cc (more)
    ]
