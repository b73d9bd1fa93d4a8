use Rattle.std.proofs.Common.{◌≡◌, ℕ, ◌<◌, ◌+◌, Bor, List, Some, ap, sym, subst, ◌∙◌, map, take, get_or, length, arith}
use Rattle.hprof_records.specs.declared.sub_record.SubRecord.{SubRecord}
use Rattle.dump_graph.specs.Classes.{Class, class_of, classes}
use Rattle.dump_graph.specs.Firsts.{IsApart, firsts}
use Rattle.dump_graph.proofs.Nodes.{classes-as_before, dumps-more, firsts-more, shown, shown-within}
use Rattle.dump_graph.proofs.classes.known_classes.Goals as goal
use Rattle.dump_graph.proofs.classes.known_classes.Goals.{in-Some+in_ok-add_class, in_default}

pub loop-part-preserved : goal.loop-part-preserved
loop-part-preserved c =
    let now : Bor SubRecord → SubRecord = λ p. p.now in
    let ps : List SubRecord = map now c.args.parts.now in
    let i = c.loop-part.part-index in
    let p = c.part-item.result.now in
    let had = c.loop-part.invariant in
    let within : i < length ps = shown-within now c.args.parts.now i c.loop-part-test.true in
    let is : p ≡ get_or ps i p = shown now c.args.parts.now i c.part-item.result c.loop-part-test.true c.part-item.is in
    elim c.match-branch-2.branch [
      | in-Some+in_ok-add_class w ↦
          let one : class_of p ≡ Some w.in-Some.class = sym c.in_ok-class.ensures ∙ w.in-Some.is in
          record {
            known = rw w.known-is (firsts-more ps i p w.in-Some.class c.loop-part.known.items w.add_class.new.known.items within is one had.known w.in_ok-add_class.ensures.known);
            numbers = rw (w.numbers-is, w.known-is) w.in_ok-add_class.ensures.numbers;
            apart = subst (λ (l : List ℕ). IsApart l) (sym w.numbers-is) (w.in_ok-add_class.ensures.apart had.apart);
            dumps = omega (arith, w.dumps-is, had.dumps, dumps-more ps i p w.in-Some.class within is one);
            few = omega (arith, w.dumps-is, had.few);
          }
      | in_default w ↦
          let same : classes (take (i + 1) ps) ≡ classes (take i ps) = classes-as_before ps i p within is (sym c.in_ok-class.ensures ∙ w.in_default.is) in
          record {
            known = rw w.known-is (had.known ∙ ap (firsts (λ (c : Class). c.id)) (sym same));
            numbers = rw (w.numbers-is, w.known-is) had.numbers;
            apart = subst (λ (l : List ℕ). IsApart l) (sym w.numbers-is) had.apart;
            dumps = w.dumps-is ∙ (had.dumps ∙ ap (length {A = Class}) (sym same));
            few = omega (arith, w.dumps-is, had.few);
          }
    ]
