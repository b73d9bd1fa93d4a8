use Rattle.std.proofs.Common.{◌≡◌, ℕ, List, ◌++◌, sym, subst}
use Rattle.ah_outside.specs.Outside.{Shelved}
use Rattle.heap_graph.specs.Graph.{Graph, Object}
use Rattle.hprof_records.specs.declared.top_record.TopRecord.{TopRecord}
use Rattle.hprof_records.specs.Records.{bytes_of_records}
use Rattle.object_view.specs.Seen.{seen_of}
use Rattle.hprof_write.specs.Outcomes.{AppendedBut, AppendedPrefix}
use Rattle.hprof_write.specs.Segments.{with_item, with_room, Filling, IsCurrent, IsFilled}
use Rattle.hprof_write.specs.Written.{object_item}
use Rattle.hprof_write.proofs.Appends.{AppendedBut-stopped}
use Rattle.hprof_write.proofs.DumpReads.{seen-put, seen-there, step-only, step-put}
use Rattle.hprof_write.proofs.Fillings.{item-done}
use Rattle.hprof_write.proofs.TableLines.{on_err-always}
use Rattle.hprof_write.proofs.dump.put_next.Goals as goal

pub put_object-requires-clause-object : goal.put_object-requires-clause-object
put_object-requires-clause-object g c =
    let first = c.args.view.now in
    let view = c.next_seen-seen.new.view in
    seen-there (g.V.HeapView.graph first) (g.V.HeapView.graph view) (g.V.HeapView.table first) (g.V.HeapView.table view) (g.V.HeapView.given first) c.next_seen-seen.result
    (g.met.V.HeapView.same_graph first view c.next_seen-seen.ensures.same) (g.met.V.HeapView.same_table first view c.next_seen-seen.ensures.same) c.next_seen-seen.ensures.seen

pub returns-in_err-make_room-clause-reads : goal.returns-in_err-make_room-clause-reads
returns-in_err-make_room-clause-reads g c =
    let first = c.args.view.now in
    let graph = g.V.HeapView.graph first in
    let S : Object → Type 0 = λ o. c.next_seen-seen.result ≡ seen_of (g.V.HeapView.table first) o in
    step-only graph.classes graph.objects (g.V.HeapView.given first) (g.V.HeapView.read_count first) (g.V.HeapView.read_count c.next_seen-seen.new.view) S
    c.next_seen-seen.ensures.seen c.next_seen-seen.ensures.reads

pub returns-in_err-put_object-clause-reads : goal.returns-in_err-put_object-clause-reads
returns-in_err-put_object-clause-reads g c =
    let first = c.args.view.now in
    let view = c.next_seen-seen.new.view in
    step-put (g.V.HeapView.graph first) (g.V.HeapView.graph view) (g.V.HeapView.table first) (g.V.HeapView.table view) (g.V.HeapView.given first)
    (g.V.HeapView.read_count first) (g.V.HeapView.read_count view) (g.V.HeapView.read_count c.put_object.new.view) c.next_seen-seen.result
    (g.met.V.HeapView.same_graph first view c.next_seen-seen.ensures.same) (g.met.V.HeapView.same_table first view c.next_seen-seen.ensures.same)
    c.next_seen-seen.ensures.seen c.next_seen-seen.ensures.reads c.put_object.ensures.reads

pub returns-in_err-put_object-clause-failed : goal.returns-in_err-put_object-clause-failed
returns-in_err-put_object-clause-failed g c =
    let now = g.F.Shelf.shelved c.make_room.new.shelf in
    let P : Type 0 = (start : Shelved) (front : List ℕ) (f : Filling) → IsFilled start front f c.args.waiting.now.items (g.F.Shelf.shelved c.args.shelf.now)
    → IsCurrent f c.args.current.now.body.items c.args.current.now.objects c.args.current.now.heap
    → AppendedPrefix start (front ++ bytes_of_records (with_room f).done) now in
    on_err-always P c.from_residual-in_err-put_object.result
    (λ start front f filled cur.
    AppendedBut-stopped start now (front ++ bytes_of_records (with_room f).done) c.make_room.new.waiting.items (c.in_ok-make_room.ensures.ok start front f filled cur).0)

pub returns-clause-reads : goal.returns-clause-reads
returns-clause-reads g c =
    let first = c.args.view.now in
    let view = c.next_seen-seen.new.view in
    step-put (g.V.HeapView.graph first) (g.V.HeapView.graph view) (g.V.HeapView.table first) (g.V.HeapView.table view) (g.V.HeapView.given first)
    (g.V.HeapView.read_count first) (g.V.HeapView.read_count view) (g.V.HeapView.read_count c.put_object.new.view) c.next_seen-seen.result
    (g.met.V.HeapView.same_graph first view c.next_seen-seen.ensures.same) (g.met.V.HeapView.same_table first view c.next_seen-seen.ensures.same)
    c.next_seen-seen.ensures.seen c.next_seen-seen.ensures.reads c.put_object.ensures.reads

pub returns-clause-ok : goal.returns-clause-ok
returns-clause-ok g c =
    λ start front f filled cur.
    let first = c.args.view.now in
    let view = c.next_seen-seen.new.view in
    let ss = c.args.strings.now.keys in
    let now = g.F.Shelf.shelved c.make_room.new.shelf in
    let waiting = c.make_room.new.waiting.items in
    let room = c.in_ok-make_room.ensures.ok start front f filled cur in
    let Q : Graph → (ℕ → ℕ) → Object → Type 0 = λ x t o. IsFilled start front (with_item ss f (object_item x.classes t o)) waiting now
    × IsCurrent (with_item ss f (object_item x.classes t o)) c.put_object.new.current.body.items c.put_object.new.current.objects c.put_object.new.current.heap in
    seen-put (g.V.HeapView.graph first) (g.V.HeapView.graph view) (g.V.HeapView.table first) (g.V.HeapView.table view) (g.V.HeapView.given first) c.next_seen-seen.result Q
    (g.met.V.HeapView.same_graph first view c.next_seen-seen.ensures.same) (g.met.V.HeapView.same_table first view c.next_seen-seen.ensures.same) c.next_seen-seen.ensures.seen
    (λ o there is. (
      subst (λ (rs : List TopRecord). AppendedBut start (front ++ bytes_of_records rs) waiting now)
          (sym (item-done ss f (object_item (g.V.HeapView.graph view).classes (g.V.HeapView.table view) o))) room.0,
      c.in_ok-put_object.ensures.ok o (with_room f) there is room.1,
    ))
