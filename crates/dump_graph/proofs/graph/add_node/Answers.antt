use Rattle.std.proofs.Common.{◌∙◌}
use Rattle.dump_graph.specs.declared.node.KeptNode.{KeptNode}
use Rattle.dump_graph.specs.Tables.{numbers_of}
use Rattle.dump_graph.proofs.Kept.{kept-add}
use Rattle.dump_graph.proofs.graph.add_node.Goals as goal

pub returns-clause-graph : goal.returns-clause-graph
returns-clause-graph c =
    let node : KeptNode = record { id = c.args.id; is_root = c.args.is_root; from = c.in_ok-from.from; to = c.in_ok-to.to } in
    kept-add c.args.nodes.now.items c.push.new.self.items c.args.targets.now.items c.add_numbers.new.found.items (numbers_of c.args.numbers.now c.args.refers.now) node
    c.requires c.in_ok-add_numbers.ensures c.in_ok-push.ensures.items
    (c.in_ok-from.ensures ∙ (c.len.ensures ∙ c.args.targets.now.ok.0)) (c.in_ok-to.ensures ∙ (c.len-2.ensures ∙ c.add_numbers.new.found.ok.0))
