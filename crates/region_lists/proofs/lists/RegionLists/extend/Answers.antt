use Rattle.std.proofs.Common.{◌≡◌, ◌≢◌, ◌∙◌, ◌<◌, ℕ, List, [], length, All, get_or, set, refl, ap, sym, arith}
use Rattle.std.proofs.lemmas.List.{get_or_read, length-set}
use Rattle.region_lists.specs.declared.chains.Entry.{Entry}
use Rattle.region_lists.specs.Chains.{chain_from, chain_of, no_entry, rows_of}
use Rattle.region_lists.specs.Rows.{Lists, with_last}
use Rattle.region_lists.proofs.ChainLemmas.{chain-holds}
use Rattle.region_lists.proofs.MoveLemmas.{filled-moved, filled-stays, in_use-distinct, in_use-from, in_use-within}
use Rattle.region_lists.proofs.RowLemmas.{lists-are, rows-filled, rows-other, same-lists}
use Rattle.region_lists.proofs.lists.RegionLists.extend.Goals as goal

some : (es : List Entry) (at n : ℕ) (s : Lists) → rows_of es (chain_from es at n) ≡ s.in_use → s.in_use ≢ [] → n ≢ 0
some es at n s is there none = there (sym is ∙ ap (λ k. rows_of es (chain_from es at k)) none)

pub index_mut-requires : goal.index_mut-requires
index_mut-requires c =
    let s = c.self.inside in
    let es = s.entries.items in
    let more = some es s.in_use.first s.in_use.count c.args.self.now (ap (λ (it : Lists). it.in_use) c.self.view_is) c.requires in
    let within = chain-holds (λ n. n < length es) es s.in_use.first s.in_use.count s.in_use.last more c.self.invariant.in_use_ends (in_use-within es s.in_use s.from s.free c.self.invariant) in
    omega (arith, within, s.entries.ok.0)

pub invariant_of-self : goal.invariant_of-self
invariant_of-self c =
    let s = c.self.inside in
    let es = s.entries.items in
    let more = some es s.in_use.first s.in_use.count c.args.self.now (ap (λ (it : Lists). it.in_use) c.self.view_is) c.requires in
    let within = chain-holds (λ n. n < length es) es s.in_use.first s.in_use.count s.in_use.last more c.self.invariant.in_use_ends (in_use-within es s.in_use s.from s.free c.self.invariant) in
    let read = get_or_read es s.in_use.last c.index_mut.result.now within c.index_mut.ensures.value no_entry in
    filled-moved es s.in_use s.from s.free s.in_use.last (record { next = c.index_mut.result.now.next; fill = c.args.fill }) c.self.invariant within (ap (λ (it : Entry). it.next) read)

pub returns-clause-in_use : goal.returns-clause-in_use
returns-clause-in_use c =
    let s = c.self.inside in
    let es = s.entries.items in
    let more = some es s.in_use.first s.in_use.count c.args.self.now (ap (λ (it : Lists). it.in_use) c.self.view_is) c.requires in
    let within = chain-holds (λ n. n < length es) es s.in_use.first s.in_use.count s.in_use.last more c.self.invariant.in_use_ends (in_use-within es s.in_use s.from s.free c.self.invariant) in
    let read = get_or_read es s.in_use.last c.index_mut.result.now within c.index_mut.ensures.value no_entry in
    let e : Entry = record { next = c.index_mut.result.now.next; fill = c.args.fill } in
    ap (rows_of (set es s.in_use.last e)) (filled-stays es s.in_use s.in_use.last e within (ap (λ (it : Entry). it.next) read))
    ∙ rows-filled es s.in_use.first s.in_use.count s.in_use.last e more within (in_use-distinct es s.in_use s.from s.free c.self.invariant) c.self.invariant.in_use_ends
    ∙ ap (λ (it : Lists). with_last it.in_use c.args.fill) c.self.view_is

pub returns-clause-rest : goal.returns-clause-rest
returns-clause-rest c =
    let s = c.self.inside in
    let es = s.entries.items in
    let more = some es s.in_use.first s.in_use.count c.args.self.now (ap (λ (it : Lists). it.in_use) c.self.view_is) c.requires in
    let within = chain-holds (λ n. n < length es) es s.in_use.first s.in_use.count s.in_use.last more c.self.invariant.in_use_ends (in_use-within es s.in_use s.from s.free c.self.invariant) in
    let read = get_or_read es s.in_use.last c.index_mut.result.now within c.index_mut.ensures.value no_entry in
    let e : Entry = record { next = c.index_mut.result.now.next; fill = c.args.fill } in
    let new = set es s.in_use.last e in
    let stays = ap (λ (it : Entry). it.next) read in
    let apart : All (λ k. k ≢ s.in_use.last) (chain_of es s.from) = λ i d inside same.
    chain-holds (λ n. n ≢ get_or (chain_of es s.from) i d) es s.in_use.first s.in_use.count s.in_use.last more c.self.invariant.in_use_ends (in_use-from es s.in_use s.from s.free c.self.invariant i d inside) (sym same) in
    same-lists (rows_of new (chain_of new s.in_use)) (rows_of new (chain_of new s.in_use)) (rows_of new (chain_of new s.from)) c.args.self.now.from (chain_of new s.free) c.args.self.now.free (length new) c.args.self.now.count
    refl
    (ap (rows_of new) (filled-stays es s.from s.in_use.last e within stays) ∙ rows-other es (chain_of es s.from) s.in_use.last e apart ∙ ap (λ (it : Lists). it.from) c.self.view_is)
    (filled-stays es s.free s.in_use.last e within stays ∙ ap (λ (it : Lists). it.free) c.self.view_is)
    (length-set es s.in_use.last e ∙ ap (λ (it : Lists). it.count) c.self.view_is)

pub returns-clause-lists : goal.returns-clause-lists
returns-clause-lists c =
    let s = c.self.inside in
    lists-are (set s.entries.items s.in_use.last (record { next = c.index_mut.result.now.next; fill = c.args.fill })) s.in_use s.from s.free (invariant_of-self c)
