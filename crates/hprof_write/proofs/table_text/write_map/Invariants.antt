use Rattle.std.proofs.Common.{◌≡◌, ◌≤◌, true, take, length}
use Rattle.hprof_write.specs.Outcomes.{AppendedBut}
use Rattle.hprof_write.proofs.TableLines.{lines, IsWalked}
use Rattle.hprof_write.proofs.table_text.write_map.Given as goal

abbrev pub invariant-loop-k : goal.invariant-loop-k
invariant-loop-k g l = record {
  count : l._k-end ≡ length (g.V.HeapView.graph l.fn.view).objects;
  given : g.V.HeapView.given l.view ≡ l._k;
  same : g.V.HeapView.same l.fn.view l.view;
  appended : AppendedBut (g.F.Shelf.shelved l.fn.shelf) (lines (g.V.HeapView.table l.fn.view) (take l._k (g.V.HeapView.graph l.fn.view).objects)) l.waiting.items (g.F.Shelf.shelved l.shelf);
  unfinished : (g.F.Shelf.shelved l.shelf).unfinished ≡ true;
  never_falls : g.F.Shelf.fault_count l.fn.shelf ≤ g.F.Shelf.fault_count l.shelf;
  reads : IsWalked (g.V.HeapView.graph l.fn.view).objects l._k (g.V.HeapView.read_count l.fn.view) (g.V.HeapView.read_count l.view);
}
