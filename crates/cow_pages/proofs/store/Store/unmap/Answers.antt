use Rattle.std.proofs.Common.{◌/◌, Some, ap, arith}
use Rattle.cow_pages.specs.declared.store.Store.{Store}
use Rattle.page_tables.proofs.WindowLemmas.{window_below}
use Rattle.cow_pages.proofs.CountLemmas.{count-within}
use Rattle.cow_pages.proofs.SharedLemmas.{leaf_length}
use Rattle.cow_pages.proofs.SoundLemmas.{leaf_there}
use Rattle.cow_pages.proofs.ReadLemmas.{place_live}
use Rattle.cow_pages.proofs.EntryLemmas.{counted_at}
use Rattle.cow_pages.proofs.SlotLemmas.{counted_at-same}
use Rattle.cow_pages.proofs.FreeLemmas.{unmapped_steps}
use Rattle.cow_pages.proofs.store.Store.unmap.Goals as goal

pub unshare-requires : goal.unshare-requires
unshare-requires c = record { within = count-within c.args.self.now.frame_counts c.args.entry.frame (omega (arith, c.requires.alone)); held = omega (arith, c.requires.alone) }

pub set_slot-requires : goal.set_slot-requires
set_slot-requires c =
    let s = c.args.self.now in
    let store = c.requires.store in
    let i = c.args.page / 1024 in
    record {
      within = leaf_there s store.kept c.args.t i c.args.leaf c.requires.place;
      slot = omega arith;
      fits = tt;
      len = leaf_length s store.kept c.args.t i c.args.leaf c.requires.place;
      slots = store.slots;
    }

pub recount-requires : goal.recount-requires
recount-requires c =
    let s = c.args.self.now in
    let store = c.requires.store in
    let live = place_live s c.args.t (c.args.page / 1024) c.args.leaf c.requires.place in
    let window = store.kept.pages.in_window c.args.t c.args.page c.args.entry c.requires.there in
    record {
      counted = counted_at-same s c.set_slot.new.self c.args.t c.args.page (Some c.args.entry) (ap (λ (it : Store). it.tables) c.set_slot.ensures.rest)
          (counted_at s c.args.t c.args.page (Some c.args.entry) store.kept live window c.requires.there (store.room.rows c.args.t live) (window_below c.args.page window) (store.counted c.args.t));
      window = window;
    }

pub returns : goal.returns
returns c =
    let s = c.args.self.now in
    let m = c.set_slot.new.self in
    let new = c.recount.new.self in
    let all = unmapped_steps s m new c.args.t c.args.page c.args.leaf c.args.entry c.unshare.new.self c.requires.store c.requires.place c.requires.own c.requires.there c.requires.alone
    (record {
      counts = c.unshare.ensures.counts;
      freed = c.unshare.ensures.freed;
      tallied = c.unshare.ensures.tallied;
      grid = c.set_slot.ensures.grid;
      slots = c.set_slot.ensures.slots;
      pages = c.set_slot.ensures.pages;
      put = c.set_slot.ensures.rest;
      recounts = c.recount.ensures.recounts;
      counted = c.recount.ensures.rest;
    }) in
    record { ready = all.0; unmaps = all.1 }
