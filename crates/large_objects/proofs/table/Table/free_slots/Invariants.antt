use Rattle.std.proofs.Common.{◌≡◌, ◌++◌, take, drop}
use Rattle.std.specs.List.{filter}
use Rattle.large_objects.specs.Rows.{stays}
use Rattle.large_objects.specs.Table.{TakesSlots}
use Rattle.large_objects.proofs.table.Table.free_slots.Given as goal

-- the dead rows before this one have no slot any more
abbrev pub invariant-loop-i : goal.invariant-loop-i
invariant-loop-i l = record {
  rows : l.self.rows.items ≡ l.fn.self.rows.items;
  slots : TakesSlots l.self.slots l.self.cost (filter stays (take l.i l.fn.self.rows.items) ++ drop l.i l.fn.self.rows.items);
  index : l.self.row_of.items ≡ l.fn.self.row_of.items;
}
