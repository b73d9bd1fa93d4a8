use Rattle.std.proofs.Common.{◌≡◌, ℕ, ◌≤◌, List, ◌++◌, true, take}
use Rattle.ah_outside.specs.Outside.{Shelved}
use Rattle.hprof_records.specs.Records.{bytes_of_records}
use Rattle.hprof_write.specs.Classes.{loads_from}
use Rattle.hprof_write.specs.Outcomes.{AppendedBut}
use Rattle.hprof_write.proofs.dump.put_loads.Given as goal

abbrev pub invariant-loop-class : goal.invariant-loop-class
invariant-loop-class g l = record {
  put : (start : Shelved) (bytes : List ℕ) → AppendedBut start bytes l.fn.waiting.items (g.F.Shelf.shelved l.fn.shelf)
      → AppendedBut start (bytes ++ bytes_of_records (loads_from l.strings.keys 0 (take l.class l.classes))) l.waiting.items (g.F.Shelf.shelved l.shelf);
  unfinished : (g.F.Shelf.shelved l.shelf).unfinished ≡ true;
  never_falls : g.F.Shelf.fault_count l.fn.shelf ≤ g.F.Shelf.fault_count l.shelf;
}
