use Rattle.std.proofs.Common.{◌≡◌, ℕ, ◌≤◌, List, ◌++◌, true, take, length}
use Rattle.ah_outside.specs.Outside.{Shelved}
use Rattle.hprof_records.specs.Records.{bytes_of_records}
use Rattle.hprof_write.specs.Outcomes.{AppendedBut}
use Rattle.hprof_write.specs.Strings.{text_records}
use Rattle.hprof_write.proofs.dump.put_texts.Given as goal

abbrev pub invariant-loop-k : goal.invariant-loop-k
invariant-loop-k g l = record {
  count : l.k-end ≡ length l.strings.keys;
  put : (start : Shelved) (bytes : List ℕ) → AppendedBut start bytes l.fn.waiting.items (g.F.Shelf.shelved l.fn.shelf)
      → AppendedBut start (bytes ++ bytes_of_records (text_records 1 (take l.k l.strings.keys))) l.waiting.items (g.F.Shelf.shelved l.shelf);
  unfinished : (g.F.Shelf.shelved l.shelf).unfinished ≡ true;
  never_falls : g.F.Shelf.fault_count l.fn.shelf ≤ g.F.Shelf.fault_count l.shelf;
}
