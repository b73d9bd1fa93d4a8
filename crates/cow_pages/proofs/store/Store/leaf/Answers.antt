use Rattle.std.proofs.Common.{◌/◌, None, Option, is_some, sym, ap, ◌∙◌}
use Rattle.std.specs.Prelude.{option_map}
use Rattle.std.proofs.lemmas.Bool.{cond-true, cond-false}
use Rattle.cow_pages.specs.Memory.{Page, is_mapped}
use Rattle.cow_pages.specs.Store.{place_at, shown, page_of_entry, table_grid}
use Rattle.page_tables.proofs.GridLemmas.{cell-column}
use Rattle.cow_pages.proofs.SharedLemmas.{stands}
use Rattle.cow_pages.proofs.ShownLemmas.{page_at-shown}
use Rattle.cow_pages.proofs.ReadLemmas.{live_there}
use Rattle.cow_pages.proofs.store.Store.leaf.Goals as goal

pub place-requires-clause-live : goal.place-requires-clause-live
place-requires-clause-live c = live_there c.args.self.now c.args.t c.requires.live

pub place-requires-clause-within : goal.place-requires-clause-within
place-requires-clause-within c =
    let s = c.args.self.now in
    let st = stands s c.args.t c.args.page c.in-Some._entry (sym c.entry.ensures ∙ c.in-Some.is) in
    cell-column (table_grid s) c.args.t (c.args.page / 1024) st.leaf st.place

pub returns-in-Some : goal.returns-in-Some
returns-in-Some c =
    let s = c.args.self.now in
    let page = page_at-shown s c.requires.store.kept c.args.t c.args.page ∙ ap (option_map (page_of_entry s)) (sym c.entry.ensures ∙ c.in-Some.is) in
    c.place.ensures ∙ sym (cond-true (is_mapped (shown s) c.args.t c.args.page) (place_at s c.args.t (c.args.page / 1024)) None (ap (λ (o : Option Page). is_some o) page))

pub returns-in-None : goal.returns-in-None
returns-in-None c =
    let s = c.args.self.now in
    let page = page_at-shown s c.requires.store.kept c.args.t c.args.page ∙ ap (option_map (page_of_entry s)) (sym c.entry.ensures ∙ c.in-None.is) in
    sym (cond-false (is_mapped (shown s) c.args.t c.args.page) (place_at s c.args.t (c.args.page / 1024)) None (ap (λ (o : Option Page). is_some o) page))
