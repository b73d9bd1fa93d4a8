use Rattle.std.proofs.Common.{◌≡◌, ℕ, List, ◌++◌, [], map, subst, ap}
use Rattle.std.specs.List.{fold}
use Rattle.ah_outside.specs.Outside.{Shelved}
use Rattle.class_layout.specs.ClassList.{Class}
use Rattle.heap_graph.specs.Graph.{Graph}
use Rattle.hprof_records.specs.declared.top_record.TopRecord.{TopRecord}
use Rattle.hprof_records.specs.Records.{bytes_of_records}
use Rattle.hprof_write.specs.Classes.{class_dumps}
use Rattle.hprof_write.specs.Objects.{root_parts}
use Rattle.hprof_write.specs.Outcomes.{AppendedBut, AppendedPrefix}
use Rattle.hprof_write.specs.Segments.{begun, closed, segments, with_item, Bare, Filling, IsCurrent, IsFilled}
use Rattle.hprof_write.specs.Written.{items, object_item}
use Rattle.hprof_write.proofs.Fillings.{DoneMore, done-prefix, done-then, items-more}
use Rattle.hprof_write.proofs.ItemRuns.{closed-more, three-runs}
use Rattle.hprof_write.proofs.RecordRuns.{records-none}
use Rattle.hprof_write.proofs.TableLines.{on_err-always}
use Rattle.hprof_write.proofs.dump.put_segments.Goals as goal

module _ (ss : List (List ℕ)) (graph : Graph) (table : ℕ → ℕ) where
  -- the roots are in
  abbrev with_roots : Filling
  with_roots = fold (with_item ss) (begun []) (map Bare (root_parts table graph.roots))

  -- and the classes
  abbrev with_classes : List Class → Filling
  with_classes cs = fold (with_item ss) with_roots (map Bare (class_dumps ss cs))

  -- and the objects
  abbrev with_objects : Filling
  with_objects = fold (with_item ss) (with_classes graph.classes) (map (object_item graph.classes table) graph.objects)

  all-closed : closed with_objects ≡ segments ss (items ss graph table)
  all-closed =
      ap closed (three-runs ss (begun []) (map Bare (root_parts table graph.roots)) (map Bare (class_dumps ss graph.classes)) (map (object_item graph.classes table) graph.objects))

  after-classes : DoneMore (with_classes graph.classes) (begun (closed with_objects))
  after-classes =
      done-then (with_classes graph.classes) with_objects (begun (closed with_objects))
      (items-more ss (with_classes graph.classes) (map (object_item graph.classes table) graph.objects)) (closed-more with_objects)

  after-roots : DoneMore with_roots (begun (closed with_objects))
  after-roots =
      done-then with_roots (with_classes graph.classes) (begun (closed with_objects)) (items-more ss with_roots (map Bare (class_dumps ss graph.classes))) after-classes

  -- some first bytes of what was done are some first bytes of all segments
  stopped : (f : Filling) (start now : Shelved) (bytes : List ℕ) → DoneMore f (begun (closed with_objects)) → AppendedPrefix start (bytes ++ bytes_of_records f.done) now
      → AppendedPrefix start (bytes ++ bytes_of_records (segments ss (items ss graph table))) now
  stopped f start now bytes m h =
      subst (λ (rs : List TopRecord). AppendedPrefix start (bytes ++ bytes_of_records rs) now) all-closed (done-prefix start now bytes f (begun (closed with_objects)) m h)

pub returns-in_err-put_roots-clause-failed : goal.returns-in_err-put_roots-clause-failed
returns-in_err-put_roots-clause-failed g c =
    let ss = c.args.strings.now.keys in
    let graph = g.V.HeapView.graph c.args.view.now in
    let table = g.V.HeapView.table c.args.view.now in
    let old = g.F.Shelf.shelved c.args.shelf.now in
    let now = g.F.Shelf.shelved c.put_roots.new.shelf in
    let P : Type 0 = (start : Shelved) (bytes : List ℕ) → AppendedBut start bytes c.args.waiting.now.items old
    → AppendedPrefix start (bytes ++ bytes_of_records (segments ss (items ss graph table))) now in
    on_err-always P c.from_residual.result
    (λ start bytes but.
    let filled = records-none start old bytes c.args.waiting.now.items but in
    stopped ss graph table (with_roots ss graph table) start now bytes (after-roots ss graph table)
    (c.in_err-put_roots.ensures.failed ss start bytes (begun []) filled (c.new-current.ensures [])))

pub returns-in_err-put_classes-clause-failed : goal.returns-in_err-put_classes-clause-failed
returns-in_err-put_classes-clause-failed g c =
    let ss = c.args.strings.now.keys in
    let graph = g.V.HeapView.graph c.args.view.now in
    let table = g.V.HeapView.table c.args.view.now in
    let old = g.F.Shelf.shelved c.args.shelf.now in
    let now = g.F.Shelf.shelved c.put_classes.new.shelf in
    let P : Type 0 = (start : Shelved) (bytes : List ℕ) → AppendedBut start bytes c.args.waiting.now.items old
    → AppendedPrefix start (bytes ++ bytes_of_records (segments ss (items ss graph table))) now in
    on_err-always P c.from_residual-in_err-put_classes.result
    (λ start bytes but.
    let filled = records-none start old bytes c.args.waiting.now.items but in
    let roots = c.in_ok-put_roots.ensures.ok ss start bytes (begun []) filled (c.new-current.ensures []) in
    stopped ss graph table (with_classes ss graph table graph.classes) start now bytes (after-classes ss graph table)
    (subst (λ (cs : List Class). AppendedPrefix start (bytes ++ bytes_of_records (with_classes ss graph table cs).done) now) c.classes.ensures.value
    (c.in_err-put_classes.ensures.failed start bytes (with_roots ss graph table) roots.0 roots.1)))

pub returns-in_err-put_objects-clause-failed : goal.returns-in_err-put_objects-clause-failed
returns-in_err-put_objects-clause-failed g c =
    let ss = c.args.strings.now.keys in
    let graph = g.V.HeapView.graph c.args.view.now in
    let table = g.V.HeapView.table c.args.view.now in
    let old = g.F.Shelf.shelved c.args.shelf.now in
    let now = g.F.Shelf.shelved c.put_objects.new.shelf in
    let P : Type 0 = (start : Shelved) (bytes : List ℕ) → AppendedBut start bytes c.args.waiting.now.items old
    → AppendedPrefix start (bytes ++ bytes_of_records (segments ss (items ss graph table))) now in
    on_err-always P c.from_residual-in_err-put_objects.result
    (λ start bytes but.
    let filled = records-none start old bytes c.args.waiting.now.items but in
    let roots = c.in_ok-put_roots.ensures.ok ss start bytes (begun []) filled (c.new-current.ensures []) in
    let Q : List Class → Type 0 = λ cs. IsFilled start bytes (with_classes ss graph table cs) c.put_classes.new.waiting.items (g.F.Shelf.shelved c.put_classes.new.shelf)
    × IsCurrent (with_classes ss graph table cs) c.put_classes.new.current.body.items c.put_classes.new.current.objects c.put_classes.new.current.heap in
    let classes = subst Q c.classes.ensures.value (c.in_ok-put_classes.ensures.ok start bytes (with_roots ss graph table) roots.0 roots.1) in
    stopped ss graph table (with_objects ss graph table) start now bytes (closed-more (with_objects ss graph table))
    (c.in_err-put_objects.ensures.failed start bytes (with_classes ss graph table graph.classes) classes.0 classes.1))

pub returns-in_err-close-clause-failed : goal.returns-in_err-close-clause-failed
returns-in_err-close-clause-failed g c =
    let ss = c.args.strings.now.keys in
    let graph = g.V.HeapView.graph c.args.view.now in
    let table = g.V.HeapView.table c.args.view.now in
    let old = g.F.Shelf.shelved c.args.shelf.now in
    let now = g.F.Shelf.shelved c.close.new.shelf in
    let P : Type 0 = (start : Shelved) (bytes : List ℕ) → AppendedBut start bytes c.args.waiting.now.items old
    → AppendedPrefix start (bytes ++ bytes_of_records (segments ss (items ss graph table))) now in
    on_err-always P c.from_residual-in_err-close.result
    (λ start bytes but.
    let filled = records-none start old bytes c.args.waiting.now.items but in
    let roots = c.in_ok-put_roots.ensures.ok ss start bytes (begun []) filled (c.new-current.ensures []) in
    let Q : List Class → Type 0 = λ cs. IsFilled start bytes (with_classes ss graph table cs) c.put_classes.new.waiting.items (g.F.Shelf.shelved c.put_classes.new.shelf)
    × IsCurrent (with_classes ss graph table cs) c.put_classes.new.current.body.items c.put_classes.new.current.objects c.put_classes.new.current.heap in
    let classes = subst Q c.classes.ensures.value (c.in_ok-put_classes.ensures.ok start bytes (with_roots ss graph table) roots.0 roots.1) in
    let objects = c.in_ok-put_objects.ensures.ok start bytes (with_classes ss graph table graph.classes) classes.0 classes.1 in
    subst (λ (rs : List TopRecord). AppendedPrefix start (bytes ++ bytes_of_records rs) now) (all-closed ss graph table)
    (c.in_err-close.ensures.failed start bytes (with_objects ss graph table) objects.0 objects.1))

pub returns-clause-ok : goal.returns-clause-ok
returns-clause-ok g c =
    λ start bytes but.
    let ss = c.args.strings.now.keys in
    let graph = g.V.HeapView.graph c.args.view.now in
    let table = g.V.HeapView.table c.args.view.now in
    let old = g.F.Shelf.shelved c.args.shelf.now in
    let now = g.F.Shelf.shelved c.close.new.shelf in
    let filled = records-none start old bytes c.args.waiting.now.items but in
    let roots = c.in_ok-put_roots.ensures.ok ss start bytes (begun []) filled (c.new-current.ensures []) in
    let Q : List Class → Type 0 = λ cs. IsFilled start bytes (with_classes ss graph table cs) c.put_classes.new.waiting.items (g.F.Shelf.shelved c.put_classes.new.shelf)
    × IsCurrent (with_classes ss graph table cs) c.put_classes.new.current.body.items c.put_classes.new.current.objects c.put_classes.new.current.heap in
    let classes = subst Q c.classes.ensures.value (c.in_ok-put_classes.ensures.ok start bytes (with_roots ss graph table) roots.0 roots.1) in
    let objects = c.in_ok-put_objects.ensures.ok start bytes (with_classes ss graph table graph.classes) classes.0 classes.1 in
    subst (λ (rs : List TopRecord). AppendedBut start (bytes ++ bytes_of_records rs) c.close.new.waiting.items now) (all-closed ss graph table)
    (c.in_ok-close.ensures.ok start bytes (with_objects ss graph table) objects.0 objects.1)
