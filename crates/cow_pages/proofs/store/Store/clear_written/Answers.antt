use Rattle.std.proofs.Common.{◌≡◌, Option, None, List, refl, sym, ap, ◌∙◌}
use Rattle.page_tables.specs.declared.table.Counts.{Counts}
use Rattle.page_tables.specs.declared.table.Table.{Table}
use Rattle.cow_pages.specs.declared.store.Store.{Store}
use Rattle.page_tables.specs.Counts.{count_in}
use Rattle.cow_pages.specs.Store.{mapped_counts, written_counts}
use Rattle.page_tables.proofs.WindowLemmas.{count-none}
use Rattle.page_tables.proofs.ListLemmas.{live_within, table_is}
use Rattle.cow_pages.proofs.CodeLemmas.{ReplacesTable, replaced-here, replaced-other, replaced-live, replaced-len, replaced-grid}
use Rattle.cow_pages.proofs.store.Store.clear_written.Goals as goal

pub returns : goal.returns
returns c =
    let s = c.args.self.now in
    let within = live_within s.tables.items c.args.t c.requires in
    let table : Table = record { leaves = c.in-Some.table.leaves; mapped = c.in-Some.table.mapped; written = c.zero-table.result } in
    let new : Store = record s { tables = Rattle.std.specs.Vec.with_item s.tables c.args.t (Rattle.std.proofs.Common.Some table) } in
    let r : ReplacesTable s new c.args.t c.in-Some.table table =
    record { within = within; was = table_is s.tables.items c.args.t c.index_mut.result.now c.in-Some.table within c.index_mut.ensures.value c.in-Some.is; now = refl } in
    let here = replaced-here s new c.args.t c.in-Some.table table r in
    record {
      mapped = λ w. ap (λ (o : Option Table). count_in (mapped_counts o) w) here ∙ sym (ap (λ (o : Option Table). count_in (mapped_counts o) w) r.was);
      written = λ w. ap (λ (o : Option Table). count_in (written_counts o) w) here ∙ ap (λ (c : Counts). count_in c w) c.zero-table.ensures ∙ count-none w;
      others = replaced-other s new c.args.t c.in-Some.table table r;
      grid = replaced-grid s new c.args.t c.in-Some.table table r refl;
      live = replaced-live s new c.args.t c.in-Some.table table r;
      len = replaced-len s new c.args.t c.in-Some.table table r;
      rest = refl;
    }
