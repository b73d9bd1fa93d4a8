use Rattle.std.proofs.Common.{◌≡◌, ◌+◌, ◌≤◌, ℕ, Option, None, Some, List, cond, refl, sym, ap, subst, ◌∙◌, arith}
use Rattle.page_tables.specs.declared.address.Window.{Window}
use Rattle.page_tables.specs.declared.leaf.Entry.{Entry}
use Rattle.page_tables.specs.declared.table.Table.{Table}
use Rattle.cow_pages.specs.declared.store.Store.{Store}
use Rattle.page_tables.specs.Counts.{count_in}
use Rattle.page_tables.specs.Leaf.{one_mapped, one_written}
use Rattle.cow_pages.specs.Store.{mapped_counts, written_counts}
use Rattle.page_tables.specs.Tables.{mapped_one, written_one}
use Rattle.page_tables.proofs.WindowLemmas.{same_window, recounted}
use Rattle.page_tables.proofs.LeafLemmas.{mapped_one-own, written_one-own}
use Rattle.page_tables.proofs.ListLemmas.{live_within, table_is}
use Rattle.cow_pages.proofs.CodeLemmas.{ReplacesTable, replaced-here, replaced-other, replaced-live, replaced-len, replaced-grid}
use Rattle.cow_pages.proofs.store.Store.recount.Goals as goal

pub returns-clause-recounts : goal.returns-clause-recounts
returns-clause-recounts c =
    let s = c.args.self.now in
    let within = live_within s.tables.items c.args.t c.requires.counted.live in
    let old = c.in-Some.table in
    let mid = c.uncount.new.self in
    let table = c.count.new.self in
    let v = c.window_of-window.result in
    let new : Store = record s { tables = Rattle.std.specs.Vec.with_item s.tables c.args.t (Some table) } in
    let r : ReplacesTable s new c.args.t old table =
    record { within = within; was = table_is s.tables.items c.args.t c.index_mut.result.now old within c.index_mut.ensures.value c.in-Some.is; now = refl } in
    let here = replaced-here s new c.args.t old table r in
    let leaves : table.leaves.items ≡ old.leaves.items = ap (λ (it : Rattle.std.specs.declared.vec.Vec.Vec (Option ℕ) Rattle.std.specs.declared.alloc.Global.Global). it.items) (c.count.ensures.leaves ∙ c.uncount.ensures.leaves) in
    let mapped_fits : one_mapped c.args.gone ≤ count_in old.mapped v =
    omega (arith, c.requires.counted.mapped, ap (λ (o : Option Table). count_in (mapped_counts o) v) r.was, ap (λ (w : Window). count_in (mapped_counts (Rattle.std.proofs.Common.get_or s.tables.items c.args.t None)) w) c.window_of-window.ensures) in
    let written_fits : one_written c.args.gone ≤ count_in old.written v =
    omega (arith, c.requires.counted.written, ap (λ (o : Option Table). count_in (written_counts o) v) r.was, ap (λ (w : Window). count_in (written_counts (Rattle.std.proofs.Common.get_or s.tables.items c.args.t None)) w) c.window_of-window.ensures) in
    record {
      mapped = λ w.
          let in_mapped = λ (o : Option Entry). mapped_one-own w c.args.page o c.requires.window ∙ ap (λ (it : Window). cond {A = ℕ} (same_window it w) (one_mapped o) 0) (sym c.window_of-window.ensures) in
          omega (
            arith,
            ap (λ (o : Option Table). count_in (mapped_counts o) w) here,
            ap (λ (o : Option Table). count_in (mapped_counts o) w) r.was,
            recounted old.mapped mid.mapped table.mapped v w (one_mapped c.args.gone) (one_mapped c.args.came) (mapped_one w c.args.page c.args.gone) (mapped_one w c.args.page c.args.came)
                mapped_fits c.uncount.ensures.mapped c.count.ensures.mapped (in_mapped c.args.gone) (in_mapped c.args.came),
          );
      written = λ w.
          let in_written = λ (o : Option Entry). written_one-own w c.args.page o c.requires.window ∙ ap (λ (it : Window). cond {A = ℕ} (same_window it w) (one_written o) 0) (sym c.window_of-window.ensures) in
          omega (
            arith,
            ap (λ (o : Option Table). count_in (written_counts o) w) here,
            ap (λ (o : Option Table). count_in (written_counts o) w) r.was,
            recounted old.written mid.written table.written v w (one_written c.args.gone) (one_written c.args.came) (written_one w c.args.page c.args.gone) (written_one w c.args.page c.args.came)
                written_fits c.uncount.ensures.written c.count.ensures.written (in_written c.args.gone) (in_written c.args.came),
          );
      others = replaced-other s new c.args.t old table r;
      grid = replaced-grid s new c.args.t old table r leaves;
      live = replaced-live s new c.args.t old table r;
      len = replaced-len s new c.args.t old table r;
    }
