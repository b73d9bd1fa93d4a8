use Rattle.std.proofs.Common.{sym, ap, ◌∙◌, arith}
use Rattle.cow_pages.specs.declared.store.Store.{Store}
use Rattle.cow_pages.specs.Store.{table_grid}
use Rattle.page_tables.proofs.GridLemmas.{cell-column}
use Rattle.cow_pages.proofs.SharedLemmas.{leaf_within}
use Rattle.cow_pages.proofs.ReadLemmas.{place_live}
use Rattle.cow_pages.proofs.FreeLemmas.{left_steps}
use Rattle.cow_pages.proofs.store.Store.leave.Goals as goal

pub unshare-requires : goal.unshare-requires
unshare-requires c = record { within = leaf_within c.args.self.now c.args.leaf (omega (arith, c.requires.ready.own)); held = omega (arith, c.requires.ready.own) }

pub set_place-requires : goal.set_place-requires
set_place-requires c =
    let s = c.args.self.now in
    let ready = c.requires.ready in
    record { live = place_live s c.args.t c.args.index c.args.leaf ready.place; within = cell-column (table_grid s) c.args.t c.args.index c.args.leaf ready.place }

pub returns : goal.returns
returns c =
    let s = c.args.self.now in
    let new = c.set_place.new.self in
    let all = left_steps s new c.args.t c.args.index c.args.leaf c.unshare.new.self c.requires.ready c.requires.empty
    (record {
      counts = c.unshare.ensures.counts;
      tallied = c.unshare.ensures.tallied;
      grid = c.set_place.ensures.grid;
      keeps = record { kept = c.set_place.ensures.counts.kept; live = c.set_place.ensures.counts.live; len = c.set_place.ensures.counts.len };
      rest = c.set_place.ensures.rest;
    }) in
    record {
      store = all.0;
      leaves = all.1;
      spare = omega (arith, ap (λ (it : Store). it.leaf_counts.spare) c.set_place.ensures.rest, c.unshare.ensures.freed c.requires.ready.own);
      rest =
          c.set_place.ensures.rest ∙ ap (λ (it : Store). record s { tables = new.tables; leaf_counts = it.leaf_counts }) (sym c.set_place.ensures.rest);
      counts = record { kept = c.set_place.ensures.counts.kept; live = c.set_place.ensures.counts.live; len = c.set_place.ensures.counts.len };
    }
