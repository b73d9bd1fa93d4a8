use Rattle.std.proofs.Common.{◌≡◌, ◌++◌, take}
use Rattle.plain_graph.specs.Reaching.{roots_held, immune_held}
use Rattle.plain_graph.proofs.graph.Graph.starts.Given as goal

abbrev pub invariant-loop-v : goal.invariant-loop-v
invariant-loop-v l = l.held.items ≡ roots_held l.self.roots ++ immune_held (take l.v-index l.nodes)
