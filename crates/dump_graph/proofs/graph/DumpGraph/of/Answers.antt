use Rattle.std.proofs.Common.{◌≡◌, ◌<◌, Bor, List, ap, sym, subst, ◌∙◌, map}
use Rattle.std.proofs.lemmas.List.{length-map}
use Rattle.hprof_records.specs.declared.sub_record.SubRecord.{SubRecord}
use Rattle.dump_graph.specs.Classes.{classes}
use Rattle.dump_graph.specs.Graph.{LeadsWithin, Node, node_ids, nodes, parts}
use Rattle.dump_graph.specs.Tables.{known_of}
use Rattle.dump_graph.proofs.Nodes.{graph-of, graph-within}
use Rattle.dump_graph.proofs.graph.DumpGraph.of.Goals as goal

pub returns-clause-graph : goal.returns-clause-graph
returns-clause-graph c =
    let now : Bor SubRecord → SubRecord = λ p. p.now in
    let ps : List SubRecord = parts c.args.dump.now.top in
    let firsts = c.in_ok-numbers.firsts in
    let all : map now c.in_ok-parts.parts.items ≡ ps = c.in_ok-parts.ensures ∙ ap parts c.as_slice.ensures in
    let for_classes : map now c.deref.result.now ≡ ps = ap (map now) c.deref.ensures.value ∙ all in
    let for_numbers : map now c.deref-2.result.now ≡ ps = ap (map now) c.deref-2.ensures.value ∙ all in
    let for_roots : map now c.deref-3.result.now ≡ ps = ap (map now) c.deref-3.ensures.value ∙ all in
    let count = c.len.ensures ∙ firsts.ok.0 in
    graph-of ps c.in_ok-classes.classes c.in_ok-numbers.numbers c.in_ok-roots.roots.items (map now firsts.items) c.in_ok-graph.graph
    (c.in_ok-classes.ensures ∙ ap (λ l. known_of (classes l)) for_classes)
    (c.in_ok-numbers.ensures.numbers ∙ ap node_ids for_numbers)
    (c.in_ok-numbers.ensures.firsts ∙ ap nodes for_numbers)
    (c.in_ok-roots.ensures.length ∙ (count ∙ sym (length-map firsts.items now)))
    (λ k within. rw for_roots at (c.in_ok-roots.ensures.roots k c.in_ok-numbers.ensures.apart (subst (λ n. k < n) (length-map firsts.items now ∙ sym count) within)))
    (rw (c.deref-4.ensures.value, c.deref-5.ensures.value) at c.in_ok-graph.ensures)

pub returns-clause-within : goal.returns-clause-within
returns-clause-within c = subst (λ (g : List Node). LeadsWithin g) (sym (returns-clause-graph c)) (graph-within (parts c.args.dump.now.top))
