use Rattle.std.proofs.Common.{◌≡◌, ◌+◌, ◌-◌, ℕ, arith, suc, subst}
use Rattle.root_paths.specs.Levels.{IsWayBack}
use Rattle.root_paths.proofs.Ways.{way-back-more}
use Rattle.root_paths.proofs.way.way_to.Goals as goal

pub loop-preserved : goal.loop-preserved
loop-preserved c =
    let left : c.args.level - c.loop.counter ≡ suc (c.args.level - (c.loop.counter + 1)) = omega arith in
    let so = subst (λ (n : ℕ). IsWayBack c.args.reached.now c.args.level c.args.number n c.loop.at c.loop.way.items) left c.loop.invariant in
    rw c.in_ok-push-2.ensures.items
    (way-back-more c.args.reached.now c.args.level c.args.number (c.args.level - (c.loop.counter + 1)) c.loop.at c.loop.way.items c.requires so c.before-at.result c.before-at.ensures)
