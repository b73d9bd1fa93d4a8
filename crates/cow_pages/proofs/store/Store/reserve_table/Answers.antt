use Rattle.std.proofs.Common.{◌++◌, ℕ, List, None, Option, refl, sym, ap, ◌∙◌}
use Rattle.std.specs.Prelude.{replicate}
use Rattle.std.proofs.lemmas.List.{append-nil}
use Rattle.page_tables.specs.declared.table.Table.{Table}
use Rattle.cow_pages.proofs.TableLemmas.{widened_store}
use Rattle.cow_pages.proofs.store.Store.reserve_table.Goals as goal

pub returns-in_err-make_room-clause-store : goal.returns-in_err-make_room-clause-store
returns-in_err-make_room-clause-store c =
    let s = c.args.self.now in
    widened_store s (record s { table_counts = c.make_room.new.self }) 0 c.requires
    (record {
      tables = sym (append-nil s.tables.items);
      counts = c.make_room.ensures.same.counts ∙ sym (append-nil s.table_counts.counts);
      tallied = c.make_room.ensures.tallied;
      rest = refl;
    })

pub returns-in_err-reserve-clause-store : goal.returns-in_err-reserve-clause-store
returns-in_err-reserve-clause-store c =
    let s = c.args.self.now in
    widened_store s (record s { tables = c.reserve.new.self; table_counts = c.make_room.new.self }) 0 c.requires
    (record {
      tables = c.reserve.ensures.items ∙ sym (append-nil s.tables.items);
      counts = c.make_room.ensures.same.counts ∙ sym (append-nil s.table_counts.counts);
      tallied = c.make_room.ensures.tallied;
      rest = refl;
    })

pub returns-clause-store : goal.returns-clause-store
returns-clause-store c =
    let s = c.args.self.now in
    widened_store s (record s { tables = c.push_reserved.new.self; table_counts = c.add.new.self }) 1 c.requires
    (record {
      tables = c.push_reserved.ensures.items ∙ ap (λ (ts : List (Option Table)). ts ++ replicate 1 None) c.reserve.ensures.items;
      counts = c.add.ensures.counts ∙ ap (λ (cs : List ℕ). cs ++ replicate 1 0) c.make_room.ensures.same.counts;
      tallied = c.add.ensures.tallied;
      rest = refl;
    })
