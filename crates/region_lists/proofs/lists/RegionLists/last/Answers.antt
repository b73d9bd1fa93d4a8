use Rattle.std.proofs.Common.{◌∙◌, ◌<◌, length, List, Some, None, nat_lt, ap, arith}
use Rattle.std.specs.Prelude.{if◌then◌else◌}
use Rattle.std.proofs.lemmas.Bool.{ltb-true}
use Rattle.region_lists.specs.declared.chains.Entry.{Entry}
use Rattle.region_lists.specs.Chains.{row_in}
use Rattle.region_lists.specs.Rows.{Lists, last_of}
use Rattle.region_lists.proofs.ChainLemmas.{chain-holds}
use Rattle.region_lists.proofs.MoveLemmas.{in_use-within}
use Rattle.region_lists.proofs.RowLemmas.{last-shown}
use Rattle.region_lists.proofs.lists.RegionLists.last.Goals as goal

pub row_if-requires : goal.row_if-requires
row_if-requires c = λ there.
    let s = c.self.inside in
    let es = s.entries.items in
    let some = ltb-true 0 s.in_use.count there in
    let within =
    chain-holds (λ n. n < length es) es s.in_use.first s.in_use.count s.in_use.last (λ none. omega (arith, some, none)) c.self.invariant.in_use_ends (in_use-within es s.in_use s.from s.free c.self.invariant) in
    rw c.deref.ensures.value within

pub returns : goal.returns
returns c =
    let s = c.self.inside in
    let es = s.entries.items in
    c.row_if.ensures
    ∙ ap (λ (it : List Entry). if nat_lt 0 s.in_use.count then Some (row_in it s.in_use.last) else None) c.deref.ensures.value
    ∙ last-shown es s.in_use.first s.in_use.count s.in_use.last c.self.invariant.in_use_ends
    ∙ ap (λ (it : Lists). last_of it.in_use) c.self.view_is
