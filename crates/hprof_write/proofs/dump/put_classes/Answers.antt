use Rattle.std.proofs.Common.{ℕ, List, ◌++◌, map, subst}
use Rattle.std.specs.List.{fold}
use Rattle.ah_outside.specs.Outside.{Shelved}
use Rattle.hprof_records.specs.Records.{bytes_of_records}
use Rattle.hprof_write.specs.Classes.{class_dumps, class_dumps_from}
use Rattle.hprof_write.specs.Outcomes.{AppendedPrefix}
use Rattle.hprof_write.specs.Segments.{with_item, Bare, Filling, IsCurrent, IsFilled}
use Rattle.hprof_write.proofs.Fillings.{done-prefix}
use Rattle.hprof_write.proofs.ItemRuns.{classes-all, classes-done}
use Rattle.hprof_write.proofs.TableLines.{on_err-always}
use Rattle.hprof_write.proofs.dump.put_classes.Goals as goal

pub returns-in_err-put_own_classes-clause-failed : goal.returns-in_err-put_own_classes-clause-failed
returns-in_err-put_own_classes-clause-failed g c =
    let ss = c.args.strings.now.keys in
    let cs = c.args.classes.now in
    let now = g.F.Shelf.shelved c.put_own_classes.new.shelf in
    let P : Type 0 = (start : Shelved) (front : List ℕ) (f : Filling) → IsFilled start front f c.args.waiting.now.items (g.F.Shelf.shelved c.args.shelf.now)
    → IsCurrent f c.args.current.now.body.items c.args.current.now.objects c.args.current.now.heap
    → AppendedPrefix start (front ++ bytes_of_records (fold (with_item ss) f (map Bare (class_dumps ss cs))).done) now in
    on_err-always P c.from_residual.result
    (λ start front f filled cur.
    done-prefix start now front (fold (with_item ss) f (map Bare (class_dumps_from ss cs 0 cs))) (fold (with_item ss) f (map Bare (class_dumps ss cs))) (classes-done ss cs f)
    (c.in_err-put_own_classes.ensures.failed start front f filled cur))

pub returns-in_err-put_array_class_item-clause-failed : goal.returns-in_err-put_array_class_item-clause-failed
returns-in_err-put_array_class_item-clause-failed g c =
    let ss = c.args.strings.now.keys in
    let cs = c.args.classes.now in
    let now = g.F.Shelf.shelved c.put_array_class_item.new.shelf in
    let P : Type 0 = (start : Shelved) (front : List ℕ) (f : Filling) → IsFilled start front f c.args.waiting.now.items (g.F.Shelf.shelved c.args.shelf.now)
    → IsCurrent f c.args.current.now.body.items c.args.current.now.objects c.args.current.now.heap
    → AppendedPrefix start (front ++ bytes_of_records (fold (with_item ss) f (map Bare (class_dumps ss cs))).done) now in
    on_err-always P c.from_residual-in_err-put_array_class_item.result
    (λ start front f filled cur.
    let own : Filling = fold (with_item ss) f (map Bare (class_dumps_from ss cs 0 cs)) in
    let before = c.in_ok-put_own_classes.ensures.ok start front f filled cur in
    subst (λ (x : Filling). AppendedPrefix start (front ++ bytes_of_records x.done) now) (classes-all ss cs f)
    (c.in_err-put_array_class_item.ensures.failed start front own before.0 before.1))

pub returns-clause-ok : goal.returns-clause-ok
returns-clause-ok g c =
    λ start front f filled cur.
    let ss = c.args.strings.now.keys in
    let cs = c.args.classes.now in
    let own : Filling = fold (with_item ss) f (map Bare (class_dumps_from ss cs 0 cs)) in
    let before = c.in_ok-put_own_classes.ensures.ok start front f filled cur in
    let Q : Filling → Type 0 = λ x. IsFilled start front x c.put_array_class_item.new.waiting.items (g.F.Shelf.shelved c.put_array_class_item.new.shelf)
    × IsCurrent x c.put_array_class_item.new.current.body.items c.put_array_class_item.new.current.objects c.put_array_class_item.new.current.heap in
    subst Q (classes-all ss cs f) (c.in_ok-put_array_class_item.ensures.ok start front own before.0 before.1)
