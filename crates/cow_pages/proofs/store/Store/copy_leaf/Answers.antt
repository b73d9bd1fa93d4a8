use Rattle.std.proofs.Common.{ℕ, List, [], length, get_or, None, is_some, ap, ◌∙◌, arith}
use Rattle.std.proofs.lemmas.List.{length-set, length-map}
use Rattle.page_tables.specs.Leaf.{Leaf}
use Rattle.cow_pages.specs.declared.store.Store.{Store}
use Rattle.cow_pages.specs.Store.{table_grid}
use Rattle.page_tables.proofs.GridLemmas.{cell-column}
use Rattle.cow_pages.proofs.SharedLemmas.{leaf_held, leaf_length, leaf_within}
use Rattle.cow_pages.proofs.SoundLemmas.{leaf_there}
use Rattle.cow_pages.proofs.ReadLemmas.{place_live}
use Rattle.cow_pages.proofs.StoreLemmas.{copied_steps, left_sharers, frames_fit, row_frames}
use Rattle.cow_pages.proofs.store.Store.copy_leaf.Goals as goal

pub share_row-requires-clause-within : goal.share_row-requires-clause-within
share_row-requires-clause-within c = leaf_there c.args.self.now c.requires.store.kept c.args.t c.args.index c.args.from c.requires.place

pub share_row-requires-clause-len : goal.share_row-requires-clause-len
share_row-requires-clause-len c = leaf_length c.args.self.now c.requires.store.kept c.args.t c.args.index c.args.from c.requires.place

pub share_row-requires-clause-frames : goal.share_row-requires-clause-frames
share_row-requires-clause-frames c = row_frames c.args.self.now c.requires.store.kept c.args.from

pub share_row-requires-clause-fits : goal.share_row-requires-clause-fits
share_row-requires-clause-fits c = frames_fit c.args.self.now c.requires.store

pub share_row-requires-clause-tallied : goal.share_row-requires-clause-tallied
share_row-requires-clause-tallied c = c.requires.store.room.frames_tallied

pub take-to-requires : goal.take-to-requires
take-to-requires c = omega (arith, c.requires.spare, ap (λ (it : Store). it.leaf_counts.spare) c.share_row.ensures.rest)

pub copy_entries-requires-clause-from_within : goal.copy_entries-requires-clause-from_within
copy_entries-requires-clause-from_within c =
    omega (arith, leaf_there c.args.self.now c.requires.store.kept c.args.t c.args.index c.args.from c.requires.place, ap (λ (it : Store). length it.leaves.items) c.share_row.ensures.rest)

pub copy_entries-requires-clause-to_within : goal.copy_entries-requires-clause-to_within
copy_entries-requires-clause-to_within c =
    let s = c.args.self.now in
    omega (
      arith,
      c.take-to.ensures.within,
      ap (λ (it : Store). length it.leaf_counts.counts) c.share_row.ensures.rest,
      c.requires.store.kept.whole.count,
      length-map s.leaves.items (λ (it : Leaf). it.entries),
      ap (λ (it : Store). length it.leaves.items) c.share_row.ensures.rest,
    )

pub unshare-requires-clause-within : goal.unshare-requires-clause-within
unshare-requires-clause-within c =
    let s = c.args.self.now in
    omega (
      arith,
      leaf_within s c.args.from (leaf_held s c.requires.store.kept.counts c.args.t c.args.index c.args.from c.requires.place),
      ap (λ (it : Store). length it.leaf_counts.counts) c.copy_entries.ensures.rest,
      ap (λ (cs : List ℕ). length cs) c.take-to.ensures.counts,
      length-set c.share_row.new.self.leaf_counts.counts c.take-to.result 1,
      ap (λ (it : Store). length it.leaf_counts.counts) c.share_row.ensures.rest,
    )

pub unshare-requires-clause-held : goal.unshare-requires-clause-held
unshare-requires-clause-held c =
    let s = c.args.self.now in
    omega (
      arith,
      leaf_held s c.requires.store.kept.counts c.args.t c.args.index c.args.from c.requires.place,
      left_sharers s c.share_row.new.self c.copy_entries.new.self c.args.t c.args.index c.args.from c.take-to.result c.take-to.new.self c.requires.store c.requires.place c.share_row.ensures.rest c.take-to.ensures.free
          c.take-to.ensures.counts c.copy_entries.ensures.rest,
    )

pub set_place-requires-clause-live : goal.set_place-requires-clause-live
set_place-requires-clause-live c =
    ap (λ (it : Store). is_some (get_or it.tables.items c.args.t None)) c.copy_entries.ensures.rest
    ∙ ap (λ (it : Store). is_some (get_or it.tables.items c.args.t None)) c.share_row.ensures.rest
    ∙ place_live c.args.self.now c.args.t c.args.index c.args.from c.requires.place

pub set_place-requires-clause-within : goal.set_place-requires-clause-within
set_place-requires-clause-within c =
    omega (
      arith,
      cell-column (table_grid c.args.self.now) c.args.t c.args.index c.args.from c.requires.place,
      ap (λ (it : Store). length (get_or (table_grid it) c.args.t [])) c.copy_entries.ensures.rest,
      ap (λ (it : Store). length (get_or (table_grid it) c.args.t [])) c.share_row.ensures.rest,
    )

pub returns : goal.returns
returns c =
    let all = copied_steps c.args.self.now c.share_row.new.self c.copy_entries.new.self c.set_place.new.self c.args.t c.args.index c.args.from c.take-to.result c.take-to.new.self c.unshare.new.self c.requires.store c.requires.place c.requires.shared
    (record {
      shared = c.share_row.ensures.sharers;
      shared_spare = c.share_row.ensures.spare;
      shared_len = c.share_row.ensures.counts.len;
      shared_tallied = c.share_row.ensures.counts.tallied;
      shared_rest = c.share_row.ensures.rest;
      taken_within = c.take-to.ensures.within;
      taken_free = c.take-to.ensures.free;
      taken_counts = c.take-to.ensures.counts;
      taken_spare = c.take-to.ensures.spare;
      copied_grid = c.copy_entries.ensures.grid;
      copied_slots = c.copy_entries.ensures.slots;
      copied_pages = c.copy_entries.ensures.pages;
      copied_rest = c.copy_entries.ensures.rest;
      left_counts = c.unshare.ensures.counts;
      left_spare = c.unshare.ensures.kept;
      left_tallied = c.unshare.ensures.tallied;
      put_grid = c.set_place.ensures.grid;
      put_counts = record { kept = c.set_place.ensures.counts.kept; live = c.set_place.ensures.counts.live; len = c.set_place.ensures.counts.len };
      put_rest = c.set_place.ensures.rest;
    }) in
    record { ready = all.ready; same = all.same; leaf = all.leaf; room = all.room }
