use Rattle.std.proofs.Common.{refl, arith}
use Rattle.cow_pages.proofs.TableLemmas.{free_number}
use Rattle.cow_pages.proofs.store.Store.add_table.Goals as goal

pub returns-clause-adds : goal.returns-clause-adds
returns-clause-adds c = record {
  within = omega (arith, c.take-number.ensures.within, c.requires.room.tables);
  fresh = free_number c.args.self.now c.requires.room c.take-number.result c.take-number.ensures.free;
  tables = refl;
  counts = c.take-number.ensures.counts;
  tallied = c.take-number.ensures.tallied;
}
