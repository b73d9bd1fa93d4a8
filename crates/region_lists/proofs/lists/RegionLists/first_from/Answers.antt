use Rattle.std.proofs.Common.{◌<◌, length}
use Rattle.std.proofs.lemmas.Bool.{ltb-true}
use Rattle.region_lists.proofs.MoveLemmas.{first-holds, from-within}
use Rattle.region_lists.proofs.lists.RegionLists.first_from.Goals as goal

pub row_if-requires : goal.row_if-requires
row_if-requires c = λ there.
    let s = c.self.inside in
    let es = s.entries.items in
    let within = first-holds (λ n. n < length es) es s.from.first s.from.count (ltb-true 0 s.from.count there) (from-within es s.in_use s.from s.free c.self.invariant) in
    rw c.deref.ensures.value within
