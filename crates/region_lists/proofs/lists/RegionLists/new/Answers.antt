use Rattle.std.proofs.Common.{◌≡◌, ◌∙◌, refl, sym, arith}
use Rattle.region_lists.proofs.NewLemmas.{new-chained}
use Rattle.region_lists.proofs.RowLemmas.{lists-are}
use Rattle.region_lists.proofs.lists.RegionLists.new.Goals as goal

pub invariant_of-result : goal.invariant_of-result
invariant_of-result c =
    let es = c.loop-i.entries.items in
    let made = c.loop-i.invariant.made in
    let end : c.loop-i.i ≡ c.args.count = omega arith in
    new-chained es c.empty.result c.empty-2.result (record { first = 0; last = c.saturating_sub.result; count = c.args.count }) c.empty.ensures c.empty-2.ensures refl (sym (made ∙ end))
    (omega (arith, made, end)) (λ k inside. c.loop-i.invariant.linked k (omega (arith, made, inside)))

pub returns-clause-lists : goal.returns-clause-lists
returns-clause-lists c = lists-are c.loop-i.entries.items c.empty.result c.empty-2.result (record { first = 0; last = c.saturating_sub.result; count = c.args.count }) (invariant_of-result c)
