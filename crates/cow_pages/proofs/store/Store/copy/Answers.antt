use Rattle.std.proofs.Common.{rules, ◌≡◌, ◌≤◌, ◌<◌, ◌^◌, ◌/◌, ◌%◌, ◌-◌, [], length, get_or, set, Some, true≢false, sym, ap, subst, ◌∙◌, inl, inr, arith}
use Rattle.std.specs.Prelude.{is_ok}
use Rattle.std.proofs.lemmas.Bool.{cases_lt}
use Rattle.cow_pages.specs.Memory.{IsShared}
use Rattle.page_tables.specs.declared.leaf.Entry.{Entry}
use Rattle.cow_pages.specs.declared.store.Store.{Store}
use Rattle.cow_pages.specs.Store.{leaf_grid, shown, spare_of, CountsSlots}
use Rattle.cow_pages.specs.Steps.{OwnsEntry}
use Rattle.page_tables.proofs.WindowLemmas.{window_below}
use Rattle.cow_pages.proofs.SharedLemmas.{leaf_length, stands}
use Rattle.cow_pages.proofs.SoundLemmas.{leaf_there, entry_within, frame_fits}
use Rattle.cow_pages.proofs.SeenLemmas.{live-shown}
use Rattle.cow_pages.proofs.ReadLemmas.{live_there, place_live}
use Rattle.cow_pages.proofs.RoomLemmas.{on_err}
use Rattle.cow_pages.proofs.SlotLemmas.{shared_flag}
use Rattle.cow_pages.proofs.CopyLemmas.{reserved_live, copied_more, copied_page, copied_entry}
use Rattle.cow_pages.proofs.store.Store.copy.Goals as goal

pub own_leaf-leaf-requires : goal.own_leaf-leaf-requires
own_leaf-leaf-requires c =
    let s = c.args.self.now in
    let m0 = c.reserve.new.self in
    let st = stands s c.args.t c.args.page c.args.entry c.requires.there in
    let live = live-shown s s.tables.items c.args.t ∙ place_live s c.args.t (c.args.page / 1024) st.leaf st.place in
    record {
      store = c.in_ok-reserve.ensures.store;
      live = live_there m0 c.args.t (reserved_live s m0 (1 - s.frame_counts.spare) (1 - s.leaf_counts.spare) c.in_ok-reserve.ensures.made c.args.t ∙ live);
      within = omega (arith, window_below c.args.page (c.requires.store.kept.pages.in_window c.args.t c.args.page c.args.entry c.requires.there));
      spare = omega (arith, c.in_ok-reserve.ensures.made.leaves_spare);
    }

pub take_copy-number-requires : goal.take_copy-number-requires
take_copy-number-requires c =
    let s = c.args.self.now in
    let m0 = c.reserve.new.self in
    let m1 = c.own_leaf-leaf.new.self in
    let ready = c.own_leaf-leaf.ensures.ready in
    let more = copied_more s m0 m1 c.args.t c.args.page c.own_leaf-leaf.result (1 - s.frame_counts.spare) (1 - s.leaf_counts.spare) c.args.entry c.requires.store c.in_ok-reserve.ensures.store c.in_ok-reserve.ensures.made
    ready c.own_leaf-leaf.ensures.same c.requires.there c.requires.shared in
    record {
      spare = omega (arith, c.in_ok-reserve.ensures.made.frames_spare, c.own_leaf-leaf.ensures.room.frames);
      counts = ready.room.frames;
      shared = more.1;
      within = entry_within m1 ready.kept ready.room c.args.t c.args.page c.args.entry more.0;
    }

pub set_slot-requires : goal.set_slot-requires
set_slot-requires c =
    let m1 = c.own_leaf-leaf.new.self in
    let ready = c.own_leaf-leaf.ensures.ready in
    let l = c.own_leaf-leaf.result in
    let i = c.args.page / 1024 in
    record {
      within = omega (arith, leaf_there m1 ready.kept c.args.t i l ready.place, ap (λ (it : Store). length it.leaves.items) c.take_copy-number.ensures.rest);
      slot = omega arith;
      fits = subst (λ n. n < 2 ^ 32 - 1) (sym (ap (λ (e : Entry). e.frame) c.new-own.ensures)) (frame_fits m1 ready.room c.take_copy-number.result c.take_copy-number.ensures.number.0);
      len = ap (λ (it : Store). length (get_or (leaf_grid it) l [])) c.take_copy-number.ensures.rest ∙ leaf_length m1 ready.kept c.args.t i l ready.place;
      slots = subst CountsSlots (sym c.take_copy-number.ensures.rest) ready.slots;
    }

pub returns : goal.returns
returns c =
    let s = c.args.self.now in
    let m0 = c.reserve.new.self in
    let m1 = c.own_leaf-leaf.new.self in
    let m2 = c.take_copy-number.new.self in
    let new = c.set_slot.new.self in
    let e = c.args.entry in
    let l = c.own_leaf-leaf.result in
    let f = c.take_copy-number.result in
    let ready = c.own_leaf-leaf.ensures.ready in
    let made = c.in_ok-reserve.ensures.made in
    let more = copied_more s m0 m1 c.args.t c.args.page l (1 - s.frame_counts.spare) (1 - s.leaf_counts.spare) e c.requires.store c.in_ok-reserve.ensures.store made ready c.own_leaf-leaf.ensures.same c.requires.there c.requires.shared in
    let plain = shared_flag s c.requires.store.kept c.args.t c.args.page e c.requires.there c.requires.shared in
    let page = copied_page m1 m2 new c.args.t c.args.page l f e ready more.0 plain more.1
    (record {
      within = c.take_copy-number.ensures.number.0;
      free = c.take_copy-number.ensures.number.2;
      counts = c.take_copy-number.ensures.counts;
      spare = c.take_copy-number.ensures.spare;
      tallied = c.take_copy-number.ensures.tallied;
      frames = c.take_copy-number.ensures.frames;
      took = c.take_copy-number.ensures.rest;
      grid = c.set_slot.ensures.grid ∙ ap (λ (d : Entry). set (leaf_grid m2) l (set (get_or (leaf_grid m2) l []) (c.args.page % 1024) (Some d))) c.new-own.ensures;
      slots = c.set_slot.ensures.slots;
      pages = c.set_slot.ensures.pages;
      put = c.set_slot.ensures.rest;
    }) in
    let all = copied_entry s m0 m1 new c.args.t c.args.page l f e c.requires.store c.in_ok-reserve.ensures.store made ready c.own_leaf-leaf.ensures.same c.own_leaf-leaf.ensures.leaf c.own_leaf-leaf.ensures.room
    c.requires.there c.requires.shared more.1 c.take_copy-number.ensures.number.2 page in
    record {
      store = page.store;
      owns = subst (λ (d : Entry). OwnsEntry s new c.args.t c.args.page e d) (sym c.new-own.ensures) all.owns;
      takes = all.takes;
      leaf = all.leaf;
      succeeds = search rules;
      only = search rules;
      err = search rules;
    }

pub returns-in_err-reserve-clause-succeeds : goal.returns-in_err-reserve-clause-succeeds
returns-in_err-reserve-clause-succeeds c = λ some. absurd (true≢false (sym (c.reserve.ensures.enough (omega (arith, some))).0 ∙ ap is_ok c.in_err-reserve.was))

pub returns-in_err-reserve-clause-only : goal.returns-in_err-reserve-clause-only
returns-in_err-reserve-clause-only c =
    let s = c.args.self.now in
    let ok = λ (some : 1 ≤ spare_of s). (c.reserve.ensures.enough some).0 in
    let none : spare_of s ≡ 0 = elim (cases_lt 0 (spare_of s)) [
      | inl some ↦ absurd (true≢false (sym (ok (omega arith)) ∙ ap is_ok c.in_err-reserve.was))
      | inr none ↦ omega arith
    ] in
    let both : IsShared (shown s) c.args.t c.args.page × (spare_of s ≡ 0) = (c.requires.shared, none) in
    on_err _ both
