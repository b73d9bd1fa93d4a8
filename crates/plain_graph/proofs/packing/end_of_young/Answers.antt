use Rattle.std.proofs.Common.{◌≡◌, Bool, ap, sym, ◌∙◌, map, filter, take, arith}
use Rattle.heap_graph.specs.Graph.{Object, is_young, size_of_object}
use Rattle.heap_graph.specs.Packing.{after, end_from}
use Rattle.heap_graph.specs.Sizes.{size_in}
use Rattle.plain_graph.proofs.FormedObjects.{size_small}
use Rattle.plain_graph.proofs.Parts.{end_from-push}
use Rattle.plain_graph.proofs.Prefixes.{kept_more, kept_same}
use Rattle.plain_graph.proofs.packing.end_of_young.Goals as goal
use Rattle.plain_graph.proofs.packing.end_of_young.Goals.{then-is_young, else-is_young}

pub loop-o-preserved : goal.loop-o-preserved
loop-o-preserved c =
    let cs = c.args.classes.now in
    let os = c.args.objects.now in
    let i = c.loop-o.o-index in
    let o = c.o-item.result in
    let inv = c.loop-o.invariant in
    let young : Object → Bool = λ o. is_young o.place in
    elim c.if-is_young.branch [
      | then-is_young w ↦
          let size : w.size_in.result ≡ size_of_object cs o = w.size_in.ensures.value ∙ ap (size_in cs) w.shape.ensures in
          let here = size_small cs os i o c.requires c.loop-o-test.true c.o-item.is in
          record {
            so_far = w.end-is ∙ w.after-end.ensures.value ∙ ap (after c.loop-o.end) size ∙ ap (λ p. after p (size_of_object cs o)) inv.so_far
                ∙ sym (ap (end_from 0) (kept_more young (size_of_object cs) os i o c.loop-o-test.true c.o-item.is (sym w.if-is_young.ensures)) ∙ end_from-push 0 (map (size_of_object cs) (filter young (take i os))) (size_of_object cs o));
            small = omega (arith, w.end-is, w.after-end.ensures.near, size, here, inv.small);
          }
      | else-is_young w ↦
          record {
            so_far = w.end-is ∙ inv.so_far ∙ sym (ap (end_from 0) (kept_same young (size_of_object cs) os i o c.loop-o-test.true c.o-item.is (sym w.if-is_young.ensures)));
            small = omega (arith, w.end-is, inv.small);
          }
    ]
