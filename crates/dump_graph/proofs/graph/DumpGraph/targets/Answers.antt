use Rattle.std.proofs.Common.{List, ℕ, [], ◌-◌, ◌∙◌, ap, take, drop}
use Rattle.dump_graph.specs.Graph.{Node}
use Rattle.dump_graph.proofs.Kept.{told-at}
use Rattle.dump_graph.proofs.graph.DumpGraph.targets.Goals as goal

pub returns : goal.returns
returns c =
    let node = c.index-node.result.now in
    ap (λ (l : List ℕ). take (node.to - node.from) (drop node.from l)) c.deref.ensures.value
    ∙ told-at (λ (x : Node). x.targets) c.self.inside.targets.items c.self.inside.nodes.items c.args.self.now c.args.number node [] c.self.view_is c.requires c.index-node.ensures
