use Rattle.std.proofs.Common.{nat_eq, List, ◌∙◌, ap, sym}
use Rattle.std.specs.Prelude.{position}
use Rattle.dump_graph.specs.Graph.{Node, number_of}
use Rattle.dump_graph.specs.declared.node.KeptNode.{KeptNode}
use Rattle.dump_graph.proofs.Kept.{kept-ids}
use Rattle.dump_graph.proofs.Positions.{position-by}
use Rattle.dump_graph.proofs.graph.DumpGraph.number_of.Goals as goal

pub returns : goal.returns
returns c =
    let of = c.self.inside in
    c.place_of.ensures
    ∙ (ap (position (λ (x : KeptNode). nat_eq x.id c.args.id)) c.deref.ensures.value
    ∙ (position-by (λ (x : KeptNode). x.id) c.args.id of.nodes.items
    ∙ (ap (position (nat_eq c.args.id)) (sym (kept-ids of.targets.items of.nodes.items)) ∙ ap (λ (g : List Node). number_of g c.args.id) c.self.view_is)))
