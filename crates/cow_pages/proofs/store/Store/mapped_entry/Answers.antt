use Rattle.std.proofs.Common.{◌/◌, ◌%◌, ℕ, Option, is_some, sym, ap, ◌∙◌}
use Rattle.std.proofs.lemmas.Option.{none-some}
use Rattle.page_tables.specs.declared.leaf.Entry.{Entry}
use Rattle.cow_pages.specs.Store.{table_grid, entry_in}
use Rattle.page_tables.proofs.GridLemmas.{cell-column}
use Rattle.cow_pages.proofs.SharedLemmas.{stands}
use Rattle.cow_pages.proofs.SoundLemmas.{leaf_there}
use Rattle.cow_pages.proofs.ReadLemmas.{mapped_entry, place_live}
use Rattle.cow_pages.proofs.store.Store.mapped_entry.Goals as goal

pub place-requires-clause-live : goal.place-requires-clause-live
place-requires-clause-live c =
    let s = c.args.self.now in
    let e = mapped_entry s c.requires.store c.args.t c.args.page c.requires.mapped in
    let st = stands s c.args.t c.args.page e.0 e.1 in
    place_live s c.args.t (c.args.page / 1024) st.leaf st.place

pub place-requires-clause-within : goal.place-requires-clause-within
place-requires-clause-within c =
    let s = c.args.self.now in
    let e = mapped_entry s c.requires.store c.args.t c.args.page c.requires.mapped in
    let st = stands s c.args.t c.args.page e.0 e.1 in
    cell-column (table_grid s) c.args.t (c.args.page / 1024) st.leaf st.place

pub unreachable-requires : goal.unreachable-requires
unreachable-requires c =
    let s = c.args.self.now in
    let e = mapped_entry s c.requires.store c.args.t c.args.page c.requires.mapped in
    let st = stands s c.args.t c.args.page e.0 e.1 in
    none-some st.leaf (sym c.in_default.is ∙ c.place.ensures ∙ st.place)

pub mapped_slot-requires-clause-leaf : goal.mapped_slot-requires-clause-leaf
mapped_slot-requires-clause-leaf c = leaf_there c.args.self.now c.requires.store.kept c.args.t (c.args.page / 1024) c.in-Some.leaf (sym c.place.ensures ∙ c.in-Some.is)

pub mapped_slot-requires-clause-mapped : goal.mapped_slot-requires-clause-mapped
mapped_slot-requires-clause-mapped c =
    let s = c.args.self.now in
    let e = mapped_entry s c.requires.store c.args.t c.args.page c.requires.mapped in
    let at = ap (λ (o : Option ℕ). entry_in s o (c.args.page % 1024)) (sym c.place.ensures ∙ c.in-Some.is) in
    ap (λ (o : Option Entry). is_some o) (sym at ∙ e.1)

pub returns : goal.returns
returns c =
    ap (λ (o : Option ℕ). entry_in c.args.self.now o (c.args.page % 1024)) (sym c.place.ensures ∙ c.in-Some.is) ∙ c.mapped_slot.ensures
