use Rattle.std.proofs.Common.{◌≡◌, ℕ, List, ◌++◌, None, map, subst}
use Rattle.std.specs.List.{fold}
use Rattle.ah_outside.specs.Outside.{Shelved}
use Rattle.heap_graph.specs.declared.names.Held.{Held}
use Rattle.heap_graph.specs.declared.names.Held.TheVariants as held
use Rattle.object_view.specs.Seen.{root_address}
use Rattle.hprof_records.specs.declared.sub_record.SubRecord.TheVariants as part
use Rattle.hprof_records.specs.Records.{bytes_of_records}
use Rattle.hprof_write.specs.Objects.{held_parts}
use Rattle.hprof_write.specs.Outcomes.{AppendedPrefix}
use Rattle.hprof_write.specs.Segments.{with_item, with_room, Bare, Filling, IsCurrent, IsFilled}
use Rattle.hprof_write.proofs.Appends.{AppendedBut-stopped}
use Rattle.hprof_write.proofs.Fillings.{part-put}
use Rattle.hprof_write.proofs.ItemRuns.{root-item}
use Rattle.hprof_write.proofs.TableLines.{on_err-always}
use Rattle.hprof_write.proofs.dump.put_root.Goals as goal

pub returns-in_err-make_room-clause-failed : goal.returns-in_err-make_room-clause-failed
returns-in_err-make_room-clause-failed g c =
    let now = g.F.Shelf.shelved c.make_room.new.shelf in
    let P : Type 0 = (ss : List (List ℕ)) (table : ℕ → ℕ) (h : Held) (start : Shelved) (front : List ℕ) (f : Filling)
    → (c.args.at.0 ≡ 0 → h ≡ held.Null) → c.args.at.0 ≡ root_address table h → IsFilled start front f c.args.waiting.now.items (g.F.Shelf.shelved c.args.shelf.now)
    → IsCurrent f c.args.current.now.body.items c.args.current.now.objects c.args.current.now.heap
    → AppendedPrefix start (front ++ bytes_of_records (fold (with_item ss) f (map Bare (held_parts table h))).done) now in
    on_err-always P c.from_residual.result
    (λ ss table h start front f null is filled cur.
    subst (λ (x : Filling). AppendedPrefix start (front ++ bytes_of_records x.done) now) (root-item ss table f h c.args.at.0 c.if-at-eq0.false is)
    (c.in_err-make_room.ensures.failed start front f filled cur))

pub returns-in_err-put_root_part-clause-failed : goal.returns-in_err-put_root_part-clause-failed
returns-in_err-put_root_part-clause-failed g c =
    let now = g.F.Shelf.shelved c.make_room.new.shelf in
    let P : Type 0 = (ss : List (List ℕ)) (table : ℕ → ℕ) (h : Held) (start : Shelved) (front : List ℕ) (f : Filling)
    → (c.args.at.0 ≡ 0 → h ≡ held.Null) → c.args.at.0 ≡ root_address table h → IsFilled start front f c.args.waiting.now.items (g.F.Shelf.shelved c.args.shelf.now)
    → IsCurrent f c.args.current.now.body.items c.args.current.now.objects c.args.current.now.heap
    → AppendedPrefix start (front ++ bytes_of_records (fold (with_item ss) f (map Bare (held_parts table h))).done) now in
    on_err-always P c.from_residual-in_err-put_root_part.result
    (λ ss table h start front f null is filled cur.
    subst (λ (x : Filling). AppendedPrefix start (front ++ bytes_of_records x.done) now) (root-item ss table f h c.args.at.0 c.if-at-eq0.false is)
    (AppendedBut-stopped start now (front ++ bytes_of_records (with_room f).done) c.make_room.new.waiting.items (c.in_ok-make_room.ensures.ok start front f filled cur).0))

pub returns-clause-ok : goal.returns-clause-ok
returns-clause-ok g c =
    λ ss table h start front f null is filled cur.
    let room = c.in_ok-make_room.ensures.ok start front f filled cur in
    let r = part.Root 0xff c.args.at.0 None None in
    let Q : Filling → Type 0 = λ x. IsFilled start front x c.make_room.new.waiting.items (g.F.Shelf.shelved c.make_room.new.shelf)
    × IsCurrent x c.put_root_part.new.out.items c.make_room.new.current.objects c.make_room.new.current.heap in
    subst Q (root-item ss table f h c.args.at.0 c.if-at-eq0.false is) (
      room.0,
      part-put (with_room f) r c.make_room.new.current.body.items c.put_root_part.new.out.items c.make_room.new.current.objects c.make_room.new.current.heap
          c.in_ok-put_root_part.ensures room.1,
    )
