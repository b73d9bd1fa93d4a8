use Rattle.std.proofs.Common.{ℕ, List, ◌++◌}
use Rattle.ah_outside.specs.Outside.{Shelved}
use Rattle.hprof_records.specs.Records.{bytes_of_records}
use Rattle.hprof_write.specs.Outcomes.{AppendedPrefix}
use Rattle.hprof_write.specs.Segments.{closed, Filling, IsCurrent, IsFilled}
use Rattle.hprof_write.proofs.Fillings.{closed-stopped, closed-waits}
use Rattle.hprof_write.proofs.TableLines.{on_err-always}
use Rattle.hprof_write.proofs.segment.close.Goals as goal

pub returns-in_err-put_segment-clause-failed : goal.returns-in_err-put_segment-clause-failed
returns-in_err-put_segment-clause-failed g c =
    let now = g.F.Shelf.shelved c.args.shelf.now in
    let P : Type 0 = (start : Shelved) (front : List ℕ) (f : Filling) → IsFilled start front f c.args.waiting.now.items now
    → IsCurrent f c.args.current.now.body.items c.args.current.now.objects c.args.current.now.heap → AppendedPrefix start (front ++ bytes_of_records (closed f)) now in
    on_err-always P c.from_residual.result (λ start front f filled cur. closed-stopped start now front f c.args.waiting.now.items filled)

pub returns-in_err-put_piece-clause-failed : goal.returns-in_err-put_piece-clause-failed
returns-in_err-put_piece-clause-failed g c =
    let old = g.F.Shelf.shelved c.args.shelf.now in
    let new = g.F.Shelf.shelved c.put_piece.new.shelf in
    let P : Type 0 = (start : Shelved) (front : List ℕ) (f : Filling) → IsFilled start front f c.args.waiting.now.items old
    → IsCurrent f c.args.current.now.body.items c.args.current.now.objects c.args.current.now.heap → AppendedPrefix start (front ++ bytes_of_records (closed f)) new in
    on_err-always P c.from_residual-in_err-put_piece.result
    (λ start front f filled cur. c.in_err-put_piece.ensures.failed start (front ++ bytes_of_records (closed f))
    (closed-waits start old front f c.args.waiting.now.items c.put_segment.new.out.items (c.in_ok-put_segment.ensures f cur) filled))
