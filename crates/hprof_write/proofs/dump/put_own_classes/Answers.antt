use Rattle.std.proofs.Common.{ℕ, ◌<◌, ◌≤◌, List, ◌++◌, length, map, subst, arith}
use Rattle.std.specs.List.{fold}
use Rattle.ah_outside.specs.Outside.{Shelved}
use Rattle.hprof_records.specs.Records.{bytes_of_records}
use Rattle.hprof_write.specs.Classes.{class_dumps_from}
use Rattle.hprof_write.specs.Outcomes.{AppendedPrefix}
use Rattle.hprof_write.specs.Segments.{with_item, Bare, Filling, IsCurrent, IsFilled}
use Rattle.hprof_write.proofs.ItemRuns.{class-in, filled-all, filled_at, length-dumps, next-out}
use Rattle.hprof_write.proofs.TableLines.{on_err-always}
use Rattle.hprof_write.proofs.dump.put_own_classes.Goals as goal

pub loop-class-preserved : goal.loop-class-preserved
loop-class-preserved g c =
    let ss = c.args.strings.now.keys in
    let cs = c.args.classes.now in
    let k = c.loop-class.class in
    let inv = c.loop-class.invariant in
    let now = g.F.Shelf.shelved c.put_class_item.new.shelf in
    record {
      count = inv.count;
      put = λ start front f filled cur.
          let before = inv.put start front f filled cur in
          let Q : Filling → Type 0 = λ x. IsFilled start front x c.put_class_item.new.waiting.items now
          × IsCurrent x c.put_class_item.new.current.body.items c.put_class_item.new.current.objects c.put_class_item.new.current.heap in
          class-in ss cs f k Q (c.in_ok-put_class_item.ensures.ok start front (filled_at ss Bare (class_dumps_from ss cs 0 cs) f k) before.0 before.1);
      unfinished = c.in_ok-put_class_item.ensures.unfinished;
      never_falls = let a = inv.never_falls in let b = c.put_class_item.ensures.never_falls in omega arith;
    }

pub returns-in_err-put_class_item-clause-failed : goal.returns-in_err-put_class_item-clause-failed
returns-in_err-put_class_item-clause-failed g c =
    let ss = c.args.strings.now.keys in
    let cs = c.args.classes.now in
    let k = c.loop-class.class in
    let inv = c.loop-class.invariant in
    let now = g.F.Shelf.shelved c.put_class_item.new.shelf in
    let P : Type 0 = (start : Shelved) (front : List ℕ) (f : Filling) → IsFilled start front f c.args.waiting.now.items (g.F.Shelf.shelved c.args.shelf.now)
    → IsCurrent f c.args.current.now.body.items c.args.current.now.objects c.args.current.now.heap
    → AppendedPrefix start (front ++ bytes_of_records (fold (with_item ss) f (map Bare (class_dumps_from ss cs 0 cs))).done) now in
    let count = inv.count in
    let long = length-dumps ss cs 0 cs in
    let within : k < length (class_dumps_from ss cs 0 cs) = omega arith in
    on_err-always P c.from_residual.result
    (λ start front f filled cur.
    let before = inv.put start front f filled cur in
    next-out ss Bare (class_dumps_from ss cs 0 cs) f k start now front within
    (c.in_err-put_class_item.ensures.failed start front (filled_at ss Bare (class_dumps_from ss cs 0 cs) f k) before.0 before.1))

pub returns-clause-ok : goal.returns-clause-ok
returns-clause-ok g c =
    λ start front f filled cur.
    let ss = c.args.strings.now.keys in
    let cs = c.args.classes.now in
    let k = c.loop-class.class in
    let count = c.loop-class.invariant.count in
    let long = length-dumps ss cs 0 cs in
    let within : length (class_dumps_from ss cs 0 cs) ≤ k = omega arith in
    let Q : Filling → Type 0 = λ x. IsFilled start front x c.loop-class.waiting.items (g.F.Shelf.shelved c.loop-class.shelf)
    × IsCurrent x c.loop-class.current.body.items c.loop-class.current.objects c.loop-class.current.heap in
    subst Q (filled-all ss Bare (class_dumps_from ss cs 0 cs) f k within) (c.loop-class.invariant.put start front f filled cur)
