use Rattle.std.proofs.Common.{◌/◌, ◌%◌, ◌-◌, ◌<◌, ◌^◌, [], get_or, set, Some, sym, ap, subst, ◌∙◌}
use Rattle.std.proofs.lemmas.Option.{none-some}
use Rattle.page_tables.specs.declared.leaf.Entry.{Entry}
use Rattle.cow_pages.specs.declared.store.Store.{Store}
use Rattle.cow_pages.specs.Store.{leaf_grid, table_grid}
use Rattle.cow_pages.specs.Steps.{Recounts}
use Rattle.page_tables.proofs.WindowLemmas.{window_below}
use Rattle.page_tables.proofs.GridLemmas.{cell-column}
use Rattle.cow_pages.proofs.SharedLemmas.{leaf_length, stands}
use Rattle.cow_pages.proofs.SoundLemmas.{leaf_there, entry_fits}
use Rattle.cow_pages.proofs.ReadLemmas.{place_live}
use Rattle.cow_pages.proofs.EntryLemmas.{counted_at}
use Rattle.cow_pages.proofs.SlotLemmas.{counted_at-same, one_counts, lone_shown}
use Rattle.cow_pages.proofs.MarkLemmas.{marked_steps, marked_before}
use Rattle.cow_pages.proofs.store.Store.mark.Goals as goal

pub returns-then-entry : goal.returns-then-entry
returns-then-entry c = record { store = c.requires.store; marks = marked_before c.args.self.now c.args.t c.args.page c.args.entry c.requires.there c.if-entry.true }

pub place-requires-clause-live : goal.place-requires-clause-live
place-requires-clause-live c =
    let s = c.args.self.now in
    let st = stands s c.args.t c.args.page c.args.entry c.requires.there in
    place_live s c.args.t (c.args.page / 1024) st.leaf st.place

pub place-requires-clause-within : goal.place-requires-clause-within
place-requires-clause-within c =
    let s = c.args.self.now in
    let st = stands s c.args.t c.args.page c.args.entry c.requires.there in
    cell-column (table_grid s) c.args.t (c.args.page / 1024) st.leaf st.place

pub unreachable-requires : goal.unreachable-requires
unreachable-requires c =
    let s = c.args.self.now in
    let st = stands s c.args.t c.args.page c.args.entry c.requires.there in
    none-some st.leaf (sym c.in_default.is ∙ c.place.ensures ∙ st.place)

pub set_slot-requires-clause-within : goal.set_slot-requires-clause-within
set_slot-requires-clause-within c = leaf_there c.args.self.now c.requires.store.kept c.args.t (c.args.page / 1024) c.in-Some.leaf (sym c.place.ensures ∙ c.in-Some.is)

pub set_slot-requires-clause-fits : goal.set_slot-requires-clause-fits
set_slot-requires-clause-fits c =
    subst (λ n. n < 2 ^ 32 - 1) (sym (ap (λ (e : Entry). e.frame) c.with_flag.ensures)) (entry_fits c.args.self.now c.requires.store.kept c.requires.store.room c.args.t c.args.page c.args.entry c.requires.there)

pub set_slot-requires-clause-len : goal.set_slot-requires-clause-len
set_slot-requires-clause-len c = leaf_length c.args.self.now c.requires.store.kept c.args.t (c.args.page / 1024) c.in-Some.leaf (sym c.place.ensures ∙ c.in-Some.is)

pub recount-requires : goal.recount-requires
recount-requires c =
    let s = c.args.self.now in
    let store = c.requires.store in
    let live = place_live s c.args.t (c.args.page / 1024) c.in-Some.leaf (sym c.place.ensures ∙ c.in-Some.is) in
    let window = store.kept.pages.in_window c.args.t c.args.page c.args.entry c.requires.there in
    record {
      counted = counted_at-same s c.set_slot.new.self c.args.t c.args.page (Some c.args.entry) (ap (λ (it : Store). it.tables) c.set_slot.ensures.rest)
          (counted_at s c.args.t c.args.page (Some c.args.entry) store.kept live window c.requires.there (store.room.rows c.args.t live) (window_below c.args.page window) (store.counted c.args.t));
      window = window;
    }

pub returns : goal.returns
returns c =
    let s = c.args.self.now in
    let store = c.requires.store in
    let m = c.set_slot.new.self in
    let new = c.recount.new.self in
    let l = c.in-Some.leaf in
    let e = c.args.entry in
    let place = sym c.place.ensures ∙ c.in-Some.is in
    let counts = one_counts s store.kept c.args.t c.args.page l e place c.requires.there c.requires.alone in
    let all = marked_steps s m new c.args.t c.args.page l e store place counts.0 c.requires.there (lone_shown s store.kept c.args.t c.args.page e c.requires.there c.requires.alone)
    (record {
      grid = c.set_slot.ensures.grid ∙ ap (λ (d : Entry). set (leaf_grid s) l (set (get_or (leaf_grid s) l []) (c.args.page % 1024) (Some d))) c.with_flag.ensures;
      slots = c.set_slot.ensures.slots;
      pages = c.set_slot.ensures.pages;
      put = c.set_slot.ensures.rest;
      recounts = subst (λ (d : Entry). Recounts m new c.args.t c.args.page (Some e) (Some d)) c.with_flag.ensures c.recount.ensures.recounts;
      counted = c.recount.ensures.rest;
    }) in
    record { store = all.0; marks = all.1 }
