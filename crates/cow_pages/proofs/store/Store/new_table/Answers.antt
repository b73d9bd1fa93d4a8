use Rattle.cow_pages.proofs.RoomLemmas.{on_err}
use Rattle.cow_pages.proofs.TableLemmas.{new_begins, seems_used, seems_room, seems_shown}
use Rattle.cow_pages.proofs.store.Store.new_table.Goals as goal

pub returns-in_err-reserve_table-clause-store : goal.returns-in_err-reserve_table-clause-store
returns-in_err-reserve_table-clause-store c = c.reserve_table.ensures.store

pub returns-in_err-reserve_table-clause-used : goal.returns-in_err-reserve_table-clause-used
returns-in_err-reserve_table-clause-used c = seems_used c.args.self.now c.reserve_table.new.self c.requires c.reserve_table.ensures.store c.reserve_table.ensures.same

pub returns-in_err-reserve_table-clause-room : goal.returns-in_err-reserve_table-clause-room
returns-in_err-reserve_table-clause-room c = seems_room c.args.self.now c.reserve_table.new.self c.requires c.reserve_table.ensures.store c.reserve_table.ensures.same

pub returns-in_err-reserve_table-clause-err : goal.returns-in_err-reserve_table-clause-err
returns-in_err-reserve_table-clause-err c =
    on_err _ (seems_shown c.args.self.now c.reserve_table.new.self c.requires.kept c.reserve_table.ensures.store.kept c.reserve_table.ensures.same c.in_err-reserve_table.ensures.err)

pub returns : goal.returns
returns c =
    let all = new_begins c.args.self.now c.reserve_table.new.self c.add_table.new.self c.add_table.result c.in_ok-table.table c.requires c.reserve_table.ensures.store c.reserve_table.ensures.same
    c.add_table.ensures.adds c.add_table.ensures.rest
    (record { leaves = c.in_ok-table.ensures.leaves; mapped = c.in_ok-table.ensures.mapped; written = c.in_ok-table.ensures.written }) in
    record {
      store = all.store;
      fresh = all.seen.fresh;
      live = all.seen.live;
      pages = all.pages;
      rest = all.seen.rest;
      leaves = (all.seen.others, all.none);
      used = all.seen.used;
      room = all.seen.room;
      err = tt;
    }
