use Rattle.std.proofs.Common.{◌≡◌, ℕ, List, None, Some, MatchResult, ap, subst, ◌∙◌}
use Rattle.ah_outside.specs.Outside.{Gained}
use Rattle.dump_graph.specs.Graph.{Node, graph, number_of, parts}
use Rattle.root_paths.specs.Answer.{node_answer}
use Rattle.root_paths.specs.Paths.{dist}
use Rattle.root_paths.specs.Putting.{Stopped}
use Rattle.root_paths.proofs.Telling.{told-none, told-some}
use Rattle.root_paths.proofs.find.find_path.Goals as goal

pub returns-in-None-clause-told : goal.returns-in-None-clause-told
returns-in-None-clause-told g c =
    let nodes : List Node = graph (parts c.args.dump.now.top) in
    let is : None ≡ number_of nodes c.args.id = c.in-None.ensures ∙ ap (λ (x : List Node). number_of x c.args.id) c.in_ok-graph.ensures.graph in
    subst (λ (t : List ℕ). Gained (g.W.Sink.gained c.args.sink.now) t (g.W.Sink.gained c.put_no_node.new.sink)) (told-none nodes c.args.id is) c.in_ok-put_no_node-in-None.ensures.1

pub returns-clause-told : goal.returns-clause-told
returns-clause-told g c =
    let nodes : List Node = graph (parts c.args.dump.now.top) in
    let is : Some c.in-Some.number ≡ number_of nodes c.args.id = c.in-Some.ensures ∙ ap (λ (x : List Node). number_of x c.args.id) c.in_ok-graph.ensures.graph in
    let told = subst (λ (x : List Node). MatchResult c.tell_node.result
    (λ _. Gained (g.W.Sink.gained c.args.sink.now) (node_answer x c.in-Some.number (dist x c.in-Some.number)) (g.W.Sink.gained c.tell_node.new.sink))
    (λ e. Stopped e (g.W.Sink.gained c.args.sink.now) (g.W.Sink.fault_count c.args.sink.now) (node_answer x c.in-Some.number (dist x c.in-Some.number)) (g.W.Sink.gained c.tell_node.new.sink) (g.W.Sink.fault_count c.tell_node.new.sink)))
    c.in_ok-graph.ensures.graph c.tell_node.ensures.told in
    subst (λ (t : List ℕ). MatchResult c.tell_node.result
    (λ _. Gained (g.W.Sink.gained c.args.sink.now) t (g.W.Sink.gained c.tell_node.new.sink))
    (λ e. Stopped e (g.W.Sink.gained c.args.sink.now) (g.W.Sink.fault_count c.args.sink.now) t (g.W.Sink.gained c.tell_node.new.sink) (g.W.Sink.fault_count c.tell_node.new.sink)))
    (told-some nodes c.args.id c.in-Some.number is) told
