use Rattle.std.proofs.Common.{false}
use Rattle.dump_graph.specs.Graph.{Node}
use Rattle.dump_graph.proofs.Kept.{told-at}
use Rattle.dump_graph.proofs.graph.DumpGraph.is_root.Goals as goal

pub returns : goal.returns
returns c = told-at (λ (x : Node). x.is_root) c.self.inside.targets.items c.self.inside.nodes.items c.args.self.now c.args.number c.index.result.now false c.self.view_is c.requires c.index.ensures
