use Rattle.std.proofs.Common.{[], None, is_some, length, get_or, ap, ◌∙◌, arith}
use Rattle.cow_pages.specs.declared.store.Store.{Store}
use Rattle.cow_pages.specs.Store.{table_grid, leaf_sharers}
use Rattle.page_tables.proofs.GridLemmas.{cell-column}
use Rattle.cow_pages.proofs.SharedLemmas.{leaf_held, leaf_within}
use Rattle.cow_pages.proofs.SoundLemmas.{leaf_there}
use Rattle.cow_pages.proofs.ReadLemmas.{place_live}
use Rattle.cow_pages.proofs.EndLemmas.{Takes, ending_leaf}
use Rattle.cow_pages.proofs.store.Store.drop_leaf.Goals as goal

pub empty_own-requires-clause-tallied : goal.empty_own-requires-clause-tallied
empty_own-requires-clause-tallied c = c.requires.room.frames_tallied

pub empty_own-requires-clause-within : goal.empty_own-requires-clause-within
empty_own-requires-clause-within c = leaf_there c.args.self.now c.requires.kept c.args.t c.args.index c.args.leaf c.requires.place

pub empty_own-requires-clause-counts : goal.empty_own-requires-clause-counts
empty_own-requires-clause-counts c = leaf_within c.args.self.now c.args.leaf (leaf_held c.args.self.now c.requires.kept.counts c.args.t c.args.index c.args.leaf c.requires.place)

pub unshare-requires-clause-within : goal.unshare-requires-clause-within
unshare-requires-clause-within c =
    let s = c.args.self.now in
    omega (
      arith,
      leaf_within s c.args.leaf (leaf_held s c.requires.kept.counts c.args.t c.args.index c.args.leaf c.requires.place),
      ap (λ (it : Store). length it.leaf_counts.counts) c.empty_own.ensures.rest,
    )

pub unshare-requires-clause-held : goal.unshare-requires-clause-held
unshare-requires-clause-held c =
    let s = c.args.self.now in
    omega (
      arith,
      leaf_held s c.requires.kept.counts c.args.t c.args.index c.args.leaf c.requires.place,
      ap (λ (it : Store). leaf_sharers it c.args.leaf) c.empty_own.ensures.rest,
    )

pub set_place-requires-clause-live : goal.set_place-requires-clause-live
set_place-requires-clause-live c =
    ap (λ (it : Store). is_some (get_or it.tables.items c.args.t None)) c.empty_own.ensures.rest ∙ place_live c.args.self.now c.args.t c.args.index c.args.leaf c.requires.place

pub set_place-requires-clause-within : goal.set_place-requires-clause-within
set_place-requires-clause-within c =
    omega (
      arith,
      cell-column (table_grid c.args.self.now) c.args.t c.args.index c.args.leaf c.requires.place,
      ap (λ (it : Store). length (get_or (table_grid it) c.args.t [])) c.empty_own.ensures.rest,
    )

pub returns : goal.returns
returns c = λ first e.
    let keeps = c.set_place.ensures.counts in
    let takes : Takes c.empty_own.new.self c.set_place.new.self c.args.t c.args.index c.args.leaf c.unshare.new.self = record {
      counts = c.unshare.ensures.counts;
      more = c.unshare.ensures.kept;
      freed = c.unshare.ensures.freed;
      tallied = c.unshare.ensures.tallied;
      grid = c.set_place.ensures.grid;
      keeps = record { kept = keeps.kept; live = keeps.live; len = keeps.len };
      rest = c.set_place.ensures.rest;
    } in
    ending_leaf first c.args.self.now c.empty_own.new.self c.set_place.new.self c.args.t c.args.index c.args.leaf c.unshare.new.self c.requires.place c.empty_own.ensures.own c.empty_own.ensures.shared
    c.empty_own.ensures.rest takes e
