use Rattle.std.proofs.Common.{◌≡◌, ℕ, ◌<◌, ◌+◌, ◌++◌, [], ◌∷◌, Bor, List, ap, sym, subst, ◌∙◌, map, take, get_or, length, nat_eq}
use Rattle.std.specs.Prelude.{position}
use Rattle.std.proofs.lemmas.List.{map-append}
use Rattle.hprof_records.specs.declared.sub_record.SubRecord.{SubRecord}
use Rattle.dump_graph.specs.Firsts.{IsApart}
use Rattle.dump_graph.specs.Graph.{id_of, nodes}
use Rattle.dump_graph.proofs.Firsts.{none-is}
use Rattle.dump_graph.proofs.Nodes.{firsts-new, firsts-old, ids-new, ids-old, nodes-as_before, shown, shown-within}
use Rattle.dump_graph.proofs.Positions.{apart-push}
use Rattle.dump_graph.proofs.graph.number_nodes.Goals as goal
use Rattle.dump_graph.proofs.graph.number_nodes.Goals.{then-stands_for_node+in_ok-add+then-branch+in_ok-push, then-stands_for_node+in_ok-add+else-branch, else-stands_for_node}

pub loop-part-preserved : goal.loop-part-preserved
loop-part-preserved c =
    let now : Bor SubRecord → SubRecord = λ p. p.now in
    let ps : List SubRecord = map now c.args.parts.now in
    let i = c.loop-part.part-index in
    let p = c.part-item.result.now in
    let had = c.loop-part.invariant in
    let fs : List SubRecord = map now c.loop-part.firsts.items in
    let within : i < length ps = shown-within now c.args.parts.now i c.loop-part-test.true in
    let is : p ≡ get_or ps i p = shown now c.args.parts.now i c.part-item.result c.loop-part-test.true c.part-item.is in
    elim c.if-stands_for_node.branch [
      | then-stands_for_node+in_ok-add+then-branch+in_ok-push w ↦
          let stands = sym c.stands_for_node.ensures ∙ w.if-stands_for_node.true in
          let pushed : map now w.push.new.self.items ≡ fs ++ p ∷ [] = ap (map now) w.in_ok-push.ensures.items ∙ map-append now c.loop-part.firsts.items (c.part-item.result ∷ []) in
          record {
            firsts = rw w.firsts-is (firsts-new ps i p within is stands fs c.loop-part.numbers w.id_of.result w.in_ok-add.field-0 had.firsts had.numbers w.id_of.ensures w.in_ok-add.ensures.new (map now w.push.new.self.items) w.if-branch.true pushed);
            numbers = rw w.numbers-is (ids-new ps i p within is stands fs c.loop-part.numbers w.id_of.result w.in_ok-add.field-0 had.firsts had.numbers w.id_of.ensures w.in_ok-add.ensures.new w.add.new.self w.if-branch.true (w.in_ok-add.ensures.added w.if-branch.true));
            apart = subst (λ (l : List ℕ). IsApart l) (sym (w.numbers-is ∙ w.in_ok-add.ensures.added w.if-branch.true)) (apart-push c.loop-part.numbers w.id_of.result had.apart (none-is (position (nat_eq w.id_of.result) c.loop-part.numbers) (w.in_ok-add.ensures.new.0 w.if-branch.true)));
          }
      | then-stands_for_node+in_ok-add+else-branch w ↦
          let stands = sym c.stands_for_node.ensures ∙ w.if-stands_for_node.true in
          record {
            firsts = rw w.firsts-is (firsts-old ps i p within is stands fs c.loop-part.numbers w.id_of.result w.in_ok-add.field-0 had.firsts had.numbers w.id_of.ensures w.in_ok-add.ensures.new w.if-branch.false);
            numbers = w.numbers-is ∙ (w.in_ok-add.ensures.known w.if-branch.false ∙ ids-old ps i p within is stands fs c.loop-part.numbers w.id_of.result w.in_ok-add.field-0 had.firsts had.numbers w.id_of.ensures w.in_ok-add.ensures.new w.if-branch.false);
            apart = subst (λ (l : List ℕ). IsApart l) (sym (w.numbers-is ∙ w.in_ok-add.ensures.known w.if-branch.false)) had.apart;
          }
      | else-stands_for_node w ↦
          let same : nodes (take (i + 1) ps) ≡ nodes (take i ps) = nodes-as_before ps i p within is (sym c.stands_for_node.ensures ∙ w.if-stands_for_node.false) in
          record {
            firsts = rw w.firsts-is (had.firsts ∙ sym same);
            numbers = w.numbers-is ∙ (had.numbers ∙ ap (map id_of) (sym same));
            apart = subst (λ (l : List ℕ). IsApart l) (sym w.numbers-is) had.apart;
          }
    ]
