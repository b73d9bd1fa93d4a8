use Rattle.std.proofs.Common.{◌+◌, ◌-◌, ◌/◌, ◌++◌, ◌∷◌, [], ap, sym, ◌∙◌, append_assoc}
use Rattle.model_numbers.specs.Numbers.{page_bytes}
use Rattle.heap_world.specs.Pages.{count_from}
use Rattle.plain_graph.proofs.Parts.{count_from-more}
use Rattle.plain_graph.proofs.packing.add_covered.Goals as goal

pub loop-page-preserved : goal.loop-page-preserved
loop-page-preserved c =
    let page = c.loop-page.page in
    let before = c.loop-page.pages.items in
    let end = c.saturating_sub.result / page_bytes + 1 in
    let rest = count_from (page + 1) (end - (page + 1)) in
    ap (λ ps. ps ++ rest) c.in_ok-push.ensures.items ∙ append_assoc before (page ∷ []) rest ∙ ap (λ ps. before ++ ps) (sym (count_from-more page end c.loop-page-test.true)) ∙ c.loop-page.invariant
