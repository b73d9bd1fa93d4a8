use Rattle.std.proofs.Common.{None, refl}
use Rattle.page_tables.proofs.ListLemmas.{live_within, table_is}
use Rattle.cow_pages.proofs.CodeLemmas.{set_place_tables, keeps-counts}
use Rattle.cow_pages.proofs.store.Store.set_place.Goals as goal

pub returns-clause-grid : goal.returns-clause-grid
returns-clause-grid c =
    let tables = c.args.self.now.tables.items in
    set_place_tables tables c.args.t c.args.index c.args.leaf c.in-Some.table _ None (live_within tables c.args.t c.requires.live)
    (table_is tables c.args.t c.index_mut.result.now c.in-Some.table (live_within tables c.args.t c.requires.live) c.index_mut.ensures.value c.in-Some.is) refl

pub returns-clause-counts : goal.returns-clause-counts
returns-clause-counts c =
    let tables = c.args.self.now.tables.items in
    let within = live_within tables c.args.t c.requires.live in
    keeps-counts _ _ c.args.t c.in-Some.table _ (record { within = within; was = table_is tables c.args.t c.index_mut.result.now c.in-Some.table within c.index_mut.ensures.value c.in-Some.is; now = refl }) refl refl
