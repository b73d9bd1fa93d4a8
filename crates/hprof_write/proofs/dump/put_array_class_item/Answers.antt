use Rattle.std.proofs.Common.{ℕ, List, ◌++◌}
use Rattle.ah_outside.specs.Outside.{Shelved}
use Rattle.hprof_records.specs.Records.{bytes_of_records}
use Rattle.hprof_write.specs.Classes.{array_class_dump}
use Rattle.hprof_write.specs.Outcomes.{AppendedPrefix}
use Rattle.hprof_write.specs.Segments.{with_item, with_room, Bare, Filling, IsCurrent, IsFilled}
use Rattle.hprof_write.proofs.Appends.{AppendedBut-stopped}
use Rattle.hprof_write.proofs.Fillings.{part-put}
use Rattle.hprof_write.proofs.TableLines.{on_err-always}
use Rattle.hprof_write.proofs.dump.put_array_class_item.Goals as goal

pub returns-in_err-put_array_class-clause-failed : goal.returns-in_err-put_array_class-clause-failed
returns-in_err-put_array_class-clause-failed g c =
    let ss = c.args.strings.now.keys in
    let now = g.F.Shelf.shelved c.make_room.new.shelf in
    let P : Type 0 = (start : Shelved) (front : List ℕ) (f : Filling) → IsFilled start front f c.args.waiting.now.items (g.F.Shelf.shelved c.args.shelf.now)
    → IsCurrent f c.args.current.now.body.items c.args.current.now.objects c.args.current.now.heap
    → AppendedPrefix start (front ++ bytes_of_records (with_item ss f (Bare array_class_dump)).done) now in
    on_err-always P c.from_residual-in_err-put_array_class.result
    (λ start front f filled cur.
    AppendedBut-stopped start now (front ++ bytes_of_records (with_room f).done) c.make_room.new.waiting.items (c.in_ok-make_room.ensures.ok start front f filled cur).0)

pub returns-clause-ok : goal.returns-clause-ok
returns-clause-ok g c =
    λ start front f filled cur.
    let room = c.in_ok-make_room.ensures.ok start front f filled cur in (
      room.0,
      part-put (with_room f) array_class_dump c.make_room.new.current.body.items c.put_array_class.new.out.items c.make_room.new.current.objects c.make_room.new.current.heap
          c.in_ok-put_array_class.ensures room.1,
    )
