use Rattle.std.proofs.Common.{◌≡◌, take}
use Rattle.plain_graph.specs.Reaching.{roots_held}
use Rattle.plain_graph.proofs.reach.root_targets.Given as goal

abbrev pub invariant-loop-r : goal.invariant-loop-r
invariant-loop-r l = l.held.items ≡ roots_held (take l.r-index l.roots)
