use Rattle.std.proofs.Common.{◌≡◌, ℕ, ◌≤◌, List, true, map, take, length}
use Rattle.std.specs.List.{fold}
use Rattle.ah_outside.specs.Outside.{Shelved}
use Rattle.hprof_write.specs.Objects.{root_parts}
use Rattle.hprof_write.specs.Segments.{with_item, Bare, Filling, IsCurrent, IsFilled}
use Rattle.hprof_write.proofs.dump.put_roots.Given as goal

abbrev pub invariant-loop-k : goal.invariant-loop-k
invariant-loop-k g l = record {
  count : l.k-end ≡ length (g.V.HeapView.graph l.view).roots;
  put : (ss : List (List ℕ)) (start : Shelved) (front : List ℕ) (f : Filling) → IsFilled start front f l.fn.waiting.items (g.F.Shelf.shelved l.fn.shelf)
      → IsCurrent f l.fn.current.body.items l.fn.current.objects l.fn.current.heap
      → IsFilled start front (fold (with_item ss) f (map Bare (root_parts (g.V.HeapView.table l.view) (take l.k (g.V.HeapView.graph l.view).roots)))) l.waiting.items (g.F.Shelf.shelved l.shelf)
      × IsCurrent (fold (with_item ss) f (map Bare (root_parts (g.V.HeapView.table l.view) (take l.k (g.V.HeapView.graph l.view).roots)))) l.current.body.items l.current.objects l.current.heap;
  unfinished : (g.F.Shelf.shelved l.shelf).unfinished ≡ true;
  never_falls : g.F.Shelf.fault_count l.fn.shelf ≤ g.F.Shelf.fault_count l.shelf;
}
