use Rattle.std.proofs.Common.{◌∙◌, ap}
use Rattle.region_lists.specs.Rows.{Lists}
use Rattle.region_lists.proofs.MoveLemmas.{flipped-moved}
use Rattle.region_lists.proofs.RowLemmas.{lists-are, none-shown}
use Rattle.region_lists.proofs.lists.RegionLists.flip.Goals as goal

pub invariant_of-self : goal.invariant_of-self
invariant_of-self c =
    let s = c.self.inside in
    let none = none-shown s.entries.items s.from.first s.from.count (ap (λ (it : Lists). it.from) c.self.view_is ∙ c.requires) in
    flipped-moved s.entries.items s.in_use s.from s.free c.empty-self-inside.result c.self.invariant none c.empty-self-inside.ensures

pub returns-clause-lists : goal.returns-clause-lists
returns-clause-lists c = lists-are c.self.inside.entries.items c.empty-self-inside.result c.self.inside.in_use c.self.inside.free (invariant_of-self c)
