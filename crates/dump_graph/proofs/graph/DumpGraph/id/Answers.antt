use Rattle.dump_graph.specs.Graph.{Node}
use Rattle.dump_graph.proofs.Kept.{told-at}
use Rattle.dump_graph.proofs.graph.DumpGraph.id.Goals as goal

pub returns : goal.returns
returns c = told-at (λ (x : Node). x.id) c.self.inside.targets.items c.self.inside.nodes.items c.args.self.now c.args.number c.index.result.now 0 c.self.view_is c.requires c.index.ensures
