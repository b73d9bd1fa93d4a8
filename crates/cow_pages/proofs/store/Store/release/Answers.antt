use Rattle.std.proofs.Common.{◌≢◌, ◌<◌, ◌/◌, sym, ◌∙◌, arith}
use Rattle.std.proofs.lemmas.Option.{none-some}
use Rattle.page_tables.specs.Leaf.{Leaf}
use Rattle.cow_pages.specs.Store.{table_grid, pages_kept}
use Rattle.page_tables.proofs.ListLemmas.{field-was}
use Rattle.page_tables.proofs.GridLemmas.{cell-column}
use Rattle.cow_pages.proofs.SharedLemmas.{stands}
use Rattle.cow_pages.proofs.SoundLemmas.{leaf_there}
use Rattle.cow_pages.proofs.ReadLemmas.{mapped_entry, place_live}
use Rattle.cow_pages.proofs.SlotLemmas.{one_counts}
use Rattle.cow_pages.proofs.FreeLemmas.{released_stays, released_leaves}
use Rattle.cow_pages.proofs.store.Store.release.Goals as goal

pub place-requires-clause-live : goal.place-requires-clause-live
place-requires-clause-live c =
    let s = c.args.self.now in
    let e = mapped_entry s c.requires.store c.args.t c.args.page c.requires.mapped in
    let st = stands s c.args.t c.args.page e.0 e.1 in
    place_live s c.args.t (c.args.page / 1024) st.leaf st.place

pub place-requires-clause-within : goal.place-requires-clause-within
place-requires-clause-within c =
    let s = c.args.self.now in
    let e = mapped_entry s c.requires.store c.args.t c.args.page c.requires.mapped in
    let st = stands s c.args.t c.args.page e.0 e.1 in
    cell-column (table_grid s) c.args.t (c.args.page / 1024) st.leaf st.place

pub unreachable-requires : goal.unreachable-requires
unreachable-requires c =
    let s = c.args.self.now in
    let e = mapped_entry s c.requires.store c.args.t c.args.page c.requires.mapped in
    let st = stands s c.args.t c.args.page e.0 e.1 in
    none-some st.leaf (sym c.in_default.is ∙ c.place.ensures ∙ st.place)

pub unmap-requires : goal.unmap-requires
unmap-requires c =
    let s = c.args.self.now in
    let place = sym c.place.ensures ∙ c.in-Some.is in
    let counts = one_counts s c.requires.store.kept c.args.t c.args.page c.in-Some.leaf c.mapped_entry-entry.result place c.mapped_entry-entry.ensures c.requires.alone in
    record { store = c.requires.store; there = c.mapped_entry-entry.ensures; place = place; own = counts.0; alone = counts.1 }

pub index-requires : goal.index-requires
index-requires c =
    let m = c.unmap.new.self in
    omega (arith, leaf_there m c.unmap.ensures.ready.kept c.args.t (c.args.page / 1024) c.in-Some.leaf c.unmap.ensures.ready.place, m.leaves.ok)

pub leave-requires : goal.leave-requires
leave-requires c =
    let m = c.unmap.new.self in
    let l = c.in-Some.leaf in
    let within = leaf_there m c.unmap.ensures.ready.kept c.args.t (c.args.page / 1024) l c.unmap.ensures.ready.place in
    record {
      ready = c.unmap.ensures.ready;
      empty = field-was (λ (it : Leaf). it.mapped) m.leaves.items l c.index.result.now 0 within c.index.ensures ∙ sym c.mapped.ensures ∙ c.if-mapped-eq0.true;
    }

pub returns-then-mapped-eq0 : goal.returns-then-mapped-eq0
returns-then-mapped-eq0 c =
    let s = c.args.self.now in
    let m = c.unmap.new.self in
    let new = c.leave.new.self in
    let all = released_leaves s m new c.args.t c.args.page c.in-Some.leaf c.requires.store c.unmap.ensures.ready c.unmap.ensures.unmaps c.leave.ensures.store c.leave.ensures.leaves c.leave.ensures.spare c.leave.ensures.rest
    (record { kept = c.leave.ensures.counts.kept; live = c.leave.ensures.counts.live; len = c.leave.ensures.counts.len }) in
    record { store = all.store; unmapped = all.unmapped; rest = all.rest; leaf = all.leaf; room = all.room; freed = all.freed }

pub returns-else-mapped-eq0 : goal.returns-else-mapped-eq0
returns-else-mapped-eq0 c =
    let s = c.args.self.now in
    let m = c.unmap.new.self in
    let l = c.in-Some.leaf in
    let within = leaf_there m c.unmap.ensures.ready.kept c.args.t (c.args.page / 1024) l c.unmap.ensures.ready.place in
    let read = field-was (λ (it : Leaf). it.mapped) m.leaves.items l c.index.result.now 0 within c.index.ensures in
    let none : pages_kept m l ≢ 0 = (λ zero. c.if-mapped-eq0.false (c.mapped.ensures ∙ sym read ∙ zero)) in
    let some : 0 < pages_kept m l = omega (arith, none) in
    let all = released_stays s m c.args.t c.args.page l c.requires.store c.unmap.ensures.ready c.unmap.ensures.unmaps some in
    record { store = all.store; unmapped = all.unmapped; rest = all.rest; leaf = all.leaf; room = all.room; freed = all.freed }
