use Rattle.std.proofs.Common.{◌∙◌, refl, subst, sym, ap, length, arith}
use Rattle.large_objects.specs.Rows.{AreRows}
use Rattle.large_objects.specs.Table.{TakesSlots}
use Rattle.large_objects.proofs.RowLemmas.{rows-none}
use Rattle.large_objects.proofs.TableLemmas.{takes-none}
use Rattle.large_objects.proofs.table.Table.new.Goals as goal

pub returns-clause-table : goal.returns-clause-table
returns-clause-table c =
    let none = sym c.new.ensures.items in
    record {
      rows = subst AreRows none rows-none;
      slots = subst (TakesSlots c.add.new.self 0) none
          (takes-none c.add.new.self c.make_room.new.self.counts 512 c.add.ensures.counts (c.make_room.ensures.same.counts ∙ c.new-slots.ensures.counts)
          (omega (arith, c.add.ensures.spare, c.make_room.ensures.same.spare, c.new-slots.ensures.spare)) refl);
      len = omega (arith, c.in_ok-resize.ensures.len, c.resize.new.self.ok.0);
      found = λ i below. absurd (omega (arith, below, ap length c.new.ensures.items));
    }
