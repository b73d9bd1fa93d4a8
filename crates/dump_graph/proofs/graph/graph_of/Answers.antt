use Rattle.std.proofs.Common.{◌≡◌, ◌++◌, [], ◌∷◌, Bool, false, get_or, Bor, List, ap, sym, ◌∙◌, map, take, length, arith}
use Rattle.std.specs.List.{zip}
use Rattle.std.proofs.lemmas.List.{length-map}
use Rattle.hprof_records.specs.declared.sub_record.SubRecord.{SubRecord}
use Rattle.dump_graph.specs.Graph.{Node}
use Rattle.dump_graph.specs.Tables.{made_node, numbers_of}
use Rattle.dump_graph.proofs.Nodes.{shown, shown-within, node-made, zip-all, zip-more}
use Rattle.dump_graph.proofs.graph.graph_of.Goals as goal

pub loop-i-preserved : goal.loop-i-preserved
loop-i-preserved c =
    let now : Bor SubRecord → SubRecord = λ p. p.now in
    let ps : List SubRecord = map now c.args.firsts.now in
    let roots = c.args.roots.now in
    let i = c.loop-i.i in
    let made : Bool × SubRecord → Node = λ x. made_node c.args.classes.now c.args.numbers.now x.0 x.1 in
    let first = c.index-firsts-i.result in
    let same : length roots ≡ length ps = omega (arith, c.requires, length-map c.args.firsts.now now) in
    let is_root = get_or roots i false in
    let one = node-made c.args.classes.now c.args.numbers.now is_root first.now c.id_of.result c.deref.result.now c.id_of.ensures (c.deref.ensures.value ∙ c.in_ok-find_references.ensures) in
    record {
      kept = c.in_ok-add_node.ensures.kept;
      made =
          c.in_ok-add_node.ensures.graph
          ∙ (ap (λ (l : List Node). l ++ record { id = c.id_of.result; is_root = is_root; targets = numbers_of c.args.numbers.now c.deref.result.now } ∷ []) c.loop-i.invariant.made
          ∙ (ap (λ (n : Node). map made (take i (zip roots ps)) ++ n ∷ []) one
          ∙ sym (zip-more made roots ps i false first.now same (shown-within now c.args.firsts.now i c.loop-i-test.true) (shown now c.args.firsts.now i first c.loop-i-test.true c.index-firsts-i.is))));
    }

pub returns : goal.returns
returns c =
    let now : Bor SubRecord → SubRecord = λ p. p.now in
    let made : Bool × SubRecord → Node = λ x. made_node c.args.classes.now c.args.numbers.now x.0 x.1 in
    c.loop-i.invariant.made ∙ ap (map made) (zip-all c.args.roots.now (map now c.args.firsts.now) c.loop-i.i (omega (arith, c.loop-i-test.false, length-map c.args.firsts.now now)))
