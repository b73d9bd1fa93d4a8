use Rattle.std.proofs.Common.{◌≢◌, ◌∙◌, ◌<◌, length, List, nat_eq, not, Some, None, IsTrue, ap, sym, subst, arith}
use Rattle.std.specs.Prelude.{if◌then◌else◌, is_some}
use Rattle.std.proofs.lemmas.Bool.{false≢true}
use Rattle.std.proofs.lemmas.Cmp.{nat_eq_equiv}
use Rattle.std.proofs.lemmas.List.{get_or_read}
use Rattle.region_lists.specs.declared.chains.Entry.{Entry}
use Rattle.region_lists.specs.Chains.{chain_of, no_entry, row_in}
use Rattle.region_lists.specs.Rows.{Lists, row_behind, row_of}
use Rattle.region_lists.proofs.MoveLemmas.{in_use-distinct, in_use-within}
use Rattle.region_lists.proofs.RowLemmas.{behind-shown, next-holds, row-holds}
use Rattle.region_lists.proofs.lists.RegionLists.behind.Goals as goal

pub index-requires : goal.index-requires
index-requires c =
    let s = c.self.inside in
    let es = s.entries.items in
    let there = subst (λ (it : Lists). IsTrue (is_some (row_of it.in_use c.args.region))) (sym c.self.view_is) c.requires in
    let within = row-holds (λ n. n < length es) es (chain_of es s.in_use) c.args.region there (in_use-within es s.in_use s.from s.free c.self.invariant) in
    omega (arith, within, s.entries.ok.0)

pub row_if-requires : goal.row_if-requires
row_if-requires c = λ other.
    let s = c.self.inside in
    let es = s.entries.items in
    let region = c.args.region in
    let there = subst (λ (it : Lists). IsTrue (is_some (row_of it.in_use region))) (sym c.self.view_is) c.requires in
    let all = in_use-within es s.in_use s.from s.free c.self.invariant in
    let within = row-holds (λ n. n < length es) es (chain_of es s.in_use) region there all in
    let read = get_or_read es region c.index.result.now within c.index.ensures no_entry in
    let apart : region ≢ s.in_use.last = λ same.
    false≢true (sym (ap not (ap (λ k. nat_eq k s.in_use.last) same ∙ nat_eq_equiv.refl s.in_use.last)) ∙ other) in
    let next = next-holds (λ n. n < length es) es s.in_use.first s.in_use.count region s.in_use.last c.self.invariant.in_use_ends there apart all in
    rw c.deref.ensures.value (subst (λ (it : Entry). it.next < length es) (sym read) next)

pub returns : goal.returns
returns c =
    let s = c.self.inside in
    let es = s.entries.items in
    let region = c.args.region in
    let there = subst (λ (it : Lists). IsTrue (is_some (row_of it.in_use region))) (sym c.self.view_is) c.requires in
    let within = row-holds (λ n. n < length es) es (chain_of es s.in_use) region there (in_use-within es s.in_use s.from s.free c.self.invariant) in
    let read = get_or_read es region c.index.result.now within c.index.ensures no_entry in
    c.row_if.ensures
    ∙ ap (λ (it : List Entry). if not (nat_eq region s.in_use.last) then Some (row_in it c.index.result.now.next) else None) c.deref.ensures.value
    ∙ ap (λ (it : Entry). if not (nat_eq region s.in_use.last) then Some (row_in es it.next) else None) read
    ∙ behind-shown es s.in_use.first s.in_use.count region s.in_use.last (in_use-distinct es s.in_use s.from s.free c.self.invariant) c.self.invariant.in_use_ends there
    ∙ ap (λ (it : Lists). row_behind it.in_use region) c.self.view_is
