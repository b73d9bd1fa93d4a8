use Rattle.std.proofs.Common.{◌/◌, ◌%◌, ◌-◌, ◌<◌, ◌^◌, [], length, get_or, set, Some, None, sym, ap, subst, ◌∙◌, arith}
use Rattle.page_tables.specs.declared.leaf.Entry.{Entry}
use Rattle.cow_pages.specs.declared.store.Store.{Store}
use Rattle.cow_pages.specs.Store.{leaf_grid, CountsSlots}
use Rattle.cow_pages.specs.Steps.{Recounts}
use Rattle.page_tables.proofs.WindowLemmas.{window_below}
use Rattle.cow_pages.proofs.SharedLemmas.{leaf_length}
use Rattle.cow_pages.proofs.SoundLemmas.{leaf_there, frame_fits}
use Rattle.cow_pages.proofs.ReadLemmas.{place_live}
use Rattle.cow_pages.proofs.EntryLemmas.{counted_at}
use Rattle.cow_pages.proofs.MapLemmas.{mapped_steps}
use Rattle.cow_pages.proofs.SlotLemmas.{counted_at-same}
use Rattle.cow_pages.proofs.store.Store.map.Goals as goal

pub take_zeros-number-requires : goal.take_zeros-number-requires
take_zeros-number-requires c = record { spare = c.requires.spare; counts = c.requires.ready.room.frames; whole = c.requires.ready.room.whole }

pub set_slot-requires : goal.set_slot-requires
set_slot-requires c =
    let s = c.args.self.now in
    let ready = c.requires.ready in
    let i = c.args.page / 1024 in
    record {
      within = omega (arith, leaf_there s ready.kept c.args.t i c.args.leaf ready.place, ap (λ (it : Store). length it.leaves.items) c.take_zeros-number.ensures.rest);
      slot = omega arith;
      fits = subst (λ n. n < 2 ^ 32 - 1) (sym (ap (λ (e : Entry). e.frame) c.new.ensures)) (frame_fits s ready.room c.take_zeros-number.result c.take_zeros-number.ensures.holds.within);
      len = ap (λ (it : Store). length (get_or (leaf_grid it) c.args.leaf [])) c.take_zeros-number.ensures.rest ∙ leaf_length s ready.kept c.args.t i c.args.leaf ready.place;
      slots = subst CountsSlots (sym c.take_zeros-number.ensures.rest) ready.slots;
    }

pub recount-requires : goal.recount-requires
recount-requires c =
    let s = c.args.self.now in
    let ready = c.requires.ready in
    let live = place_live s c.args.t (c.args.page / 1024) c.args.leaf ready.place in
    record {
      counted = counted_at-same s c.set_slot.new.self c.args.t c.args.page None (ap (λ (it : Store). it.tables) c.set_slot.ensures.rest ∙ ap (λ (it : Store). it.tables) c.take_zeros-number.ensures.rest)
          (counted_at s c.args.t c.args.page None ready.kept live c.requires.window c.requires.unmapped (ready.room.rows c.args.t live) (window_below c.args.page c.requires.window) (ready.counted c.args.t));
      window = c.requires.window;
    }

pub returns : goal.returns
returns c =
    let s = c.args.self.now in
    let m1 = c.take_zeros-number.new.self in
    let m2 = c.set_slot.new.self in
    let new = c.recount.new.self in
    let l = c.args.leaf in
    let f = c.take_zeros-number.result in
    let all = mapped_steps s m1 m2 new c.args.t c.args.page l f c.requires.ready c.requires.window c.requires.unmapped
    (record {
      holds = c.take_zeros-number.ensures.holds;
      zeros = c.take_zeros-number.ensures.frames;
      took = c.take_zeros-number.ensures.rest;
      grid = c.set_slot.ensures.grid ∙ ap (λ (e : Entry). set (leaf_grid m1) l (set (get_or (leaf_grid m1) l []) (c.args.page % 1024) (Some e))) c.new.ensures;
      slots = c.set_slot.ensures.slots;
      pages = c.set_slot.ensures.pages;
      put = c.set_slot.ensures.rest;
      recounts = subst (λ (e : Entry). Recounts m2 new c.args.t c.args.page None (Some e)) c.new.ensures c.recount.ensures.recounts;
      counted = c.recount.ensures.rest;
    }) in
    record { store = all.0; maps = all.1 }
