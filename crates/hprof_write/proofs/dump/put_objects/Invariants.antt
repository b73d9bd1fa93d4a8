use Rattle.std.proofs.Common.{◌≡◌, ℕ, ◌≤◌, List, true, length}
use Rattle.ah_outside.specs.Outside.{Shelved}
use Rattle.hprof_write.specs.Segments.{Filling, IsCurrent, IsFilled}
use Rattle.hprof_write.specs.Written.{object_item}
use Rattle.hprof_write.proofs.DumpReads.{IsPut}
use Rattle.hprof_write.proofs.ItemRuns.{filled_at}
use Rattle.hprof_write.proofs.dump.put_objects.Given as goal

abbrev pub invariant-loop-k : goal.invariant-loop-k
invariant-loop-k g l = record {
  count : l._k-end ≡ length (g.V.HeapView.graph l.fn.view).objects;
  given : g.V.HeapView.given l.view ≡ l._k;
  same : g.V.HeapView.same l.fn.view l.view;
  put : (start : Shelved) (front : List ℕ) (f : Filling) → IsFilled start front f l.fn.waiting.items (g.F.Shelf.shelved l.fn.shelf)
      → IsCurrent f l.fn.current.body.items l.fn.current.objects l.fn.current.heap
      → IsFilled start front (filled_at l.strings.keys (object_item (g.V.HeapView.graph l.fn.view).classes (g.V.HeapView.table l.fn.view)) (g.V.HeapView.graph l.fn.view).objects f l._k) l.waiting.items (g.F.Shelf.shelved l.shelf)
      × IsCurrent (filled_at l.strings.keys (object_item (g.V.HeapView.graph l.fn.view).classes (g.V.HeapView.table l.fn.view)) (g.V.HeapView.graph l.fn.view).objects f l._k) l.current.body.items l.current.objects l.current.heap;
  unfinished : (g.F.Shelf.shelved l.shelf).unfinished ≡ true;
  never_falls : g.F.Shelf.fault_count l.fn.shelf ≤ g.F.Shelf.fault_count l.shelf;
  reads : IsPut (g.V.HeapView.graph l.fn.view).classes (g.V.HeapView.graph l.fn.view).objects l._k (g.V.HeapView.read_count l.fn.view) (g.V.HeapView.read_count l.view);
}
