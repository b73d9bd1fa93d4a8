use Rattle.std.proofs.Common.{◌≡◌, ◌≤◌, ◌++◌, ◌∷◌, [], Bool, length, sym, ap, subst, ◌∙◌, arith, length-append}
use Rattle.std.proofs.lemmas.List.Elements.{All-push}
use Rattle.std.specs.List.{All}
use Rattle.model_numbers.specs.Numbers.{most_array_bytes}
use Rattle.heap_graph.specs.Graph.{Object, is_young, size_of_object}
use Rattle.heap_graph.specs.Sizes.{size_in}
use Rattle.plain_graph.proofs.FormedObjects.{size_small}
use Rattle.plain_graph.proofs.Prefixes.{kept_more, kept_same}
use Rattle.plain_graph.proofs.packing.sizes_of_young.Goals as goal
use Rattle.plain_graph.proofs.packing.sizes_of_young.Goals.{then-is_young+in_ok-push, else-is_young}

pub loop-o-preserved : goal.loop-o-preserved
loop-o-preserved c =
    let cs = c.args.classes.now in
    let os = c.args.objects.now in
    let i = c.loop-o.o-index in
    let o = c.o-item.result in
    let inv = c.loop-o.invariant in
    let young : Object → Bool = λ o. is_young o.place in
    elim c.if-is_young.branch [
      | then-is_young+in_ok-push w ↦
          let size : w.size_in.result ≡ size_of_object cs o = w.size_in.ensures.value ∙ ap (size_in cs) w.shape.ensures in
          let items : c.if-is_young.sizes.items ≡ c.loop-o.sizes.items ++ size_of_object cs o ∷ [] =
          ap (λ v. v.items) w.sizes-is ∙ w.in_ok-push.ensures.items ∙ ap (λ n. c.loop-o.sizes.items ++ n ∷ []) size in
          record {
            so_far = items ∙ ap (λ ns. ns ++ size_of_object cs o ∷ []) inv.so_far ∙ sym (kept_more young (size_of_object cs) os i o c.loop-o-test.true c.o-item.is (sym w.if-is_young.ensures));
            small =
                let here = size_small cs os i o c.requires c.loop-o-test.true c.o-item.is in
                subst (λ ns. All (λ s. s ≤ most_array_bytes) ns) (sym items) (All-push (λ s. s ≤ most_array_bytes) c.loop-o.sizes.items (size_of_object cs o) inv.small here);
            few = omega (arith, ap length items, length-append c.loop-o.sizes.items (size_of_object cs o ∷ []));
          }
      | else-is_young w ↦
          let items : c.if-is_young.sizes.items ≡ c.loop-o.sizes.items = ap (λ v. v.items) w.sizes-is in
          record {
            so_far = items ∙ inv.so_far ∙ sym (kept_same young (size_of_object cs) os i o c.loop-o-test.true c.o-item.is (sym w.if-is_young.ensures));
            small = subst (λ ns. All (λ s. s ≤ most_array_bytes) ns) (sym items) inv.small;
            few = omega (arith, ap length items);
          }
    ]
