use Rattle.std.proofs.Common.{arith, sym}
use Rattle.std.proofs.lemmas.Grind.{common_steps}
use Rattle.root_paths.proofs.Reaching.{reaches-more, roots-more}
use Rattle.root_paths.proofs.levels.reach_roots.Goals as goal
use Rattle.root_paths.proofs.levels.reach_roots.Goals.{then-is_root+in_ok-push+in_ok-push-2, else-is_root+in_ok-push-3}

pub loop-i-preserved : goal.loop-i-preserved
loop-i-preserved c =
    let is = sym c.is_root.ensures in
    let reaches = reaches-more c.args.graph.now c.loop-i.i c.is_root.result is in
    let roots = roots-more c.args.graph.now c.loop-i.i c.is_root.result is in
    elim c.if-is_root.branch [ then-is_root+in_ok-push+in_ok-push-2 w ↦ grind (arith, common_steps) | else-is_root+in_ok-push-3 w ↦ grind (arith, common_steps) ]
