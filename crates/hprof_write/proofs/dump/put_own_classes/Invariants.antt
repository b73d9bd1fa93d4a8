use Rattle.std.proofs.Common.{◌≡◌, ℕ, ◌≤◌, List, true, length}
use Rattle.ah_outside.specs.Outside.{Shelved}
use Rattle.hprof_write.specs.Classes.{class_dumps_from}
use Rattle.hprof_write.specs.Segments.{Bare, Filling, IsCurrent, IsFilled}
use Rattle.hprof_write.proofs.ItemRuns.{filled_at}
use Rattle.hprof_write.proofs.dump.put_own_classes.Given as goal

abbrev pub invariant-loop-class : goal.invariant-loop-class
invariant-loop-class g l = record {
  count : l.class-end ≡ length l.classes;
  put : (start : Shelved) (front : List ℕ) (f : Filling) → IsFilled start front f l.fn.waiting.items (g.F.Shelf.shelved l.fn.shelf)
      → IsCurrent f l.fn.current.body.items l.fn.current.objects l.fn.current.heap
      → IsFilled start front (filled_at l.strings.keys Bare (class_dumps_from l.strings.keys l.classes 0 l.classes) f l.class) l.waiting.items (g.F.Shelf.shelved l.shelf)
      × IsCurrent (filled_at l.strings.keys Bare (class_dumps_from l.strings.keys l.classes 0 l.classes) f l.class) l.current.body.items l.current.objects l.current.heap;
  unfinished : (g.F.Shelf.shelved l.shelf).unfinished ≡ true;
  never_falls : g.F.Shelf.fault_count l.fn.shelf ≤ g.F.Shelf.fault_count l.shelf;
}
