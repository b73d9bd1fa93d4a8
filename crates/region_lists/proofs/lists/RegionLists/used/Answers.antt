use Rattle.std.proofs.Common.{◌∙◌, length, sym, ap, subst}
use Rattle.region_lists.specs.Rows.{IsLists, Lists}
use Rattle.region_lists.proofs.RowLemmas.{length-rows, lists-are}
use Rattle.region_lists.proofs.lists.RegionLists.used.Goals as goal

pub returns-clause-used : goal.returns-clause-used
returns-clause-used c =
    let s = c.self.inside in
    sym (ap (λ (it : Lists). length it.in_use) (sym c.self.view_is) ∙ length-rows s.entries.items s.in_use.first s.in_use.count)

pub returns-clause-lists : goal.returns-clause-lists
returns-clause-lists c =
    let s = c.self.inside in
    subst IsLists c.self.view_is (lists-are s.entries.items s.in_use s.from s.free c.self.invariant)
