use Rattle.std.proofs.Common.{◌∙◌, ℕ, List, ◌++◌, sym, subst}
use Rattle.ah_outside.specs.Outside.{Shelved}
use Rattle.hprof_records.specs.Records.{bytes_of_records}
use Rattle.hprof_write.specs.Outcomes.{AppendedPrefix}
use Rattle.hprof_write.specs.Segments.{closed, with_room, Filling, IsCurrent, IsFilled}
use Rattle.hprof_write.proofs.Fillings.{room-made}
use Rattle.hprof_write.proofs.TableLines.{on_err-always}
use Rattle.hprof_write.proofs.segment.make_room.Goals as goal

pub returns-in_err-close-clause-failed : goal.returns-in_err-close-clause-failed
returns-in_err-close-clause-failed g c =
    let old = g.F.Shelf.shelved c.args.shelf.now in
    let new = g.F.Shelf.shelved c.close.new.shelf in
    let P : Type 0 = (start : Shelved) (front : List ℕ) (f : Filling) → IsFilled start front f c.args.waiting.now.items old
    → IsCurrent f c.args.current.now.body.items c.args.current.now.objects c.args.current.now.heap → AppendedPrefix start (front ++ bytes_of_records (with_room f).done) new in
    on_err-always P c.from_residual.result
    (λ start front f filled cur.
    let e = room-made f (sym (c.is_full.ensures f cur) ∙ c.if-is_full.true) in
    subst (λ (x : Filling). AppendedPrefix start (front ++ bytes_of_records x.done) new) e (c.in_err-close.ensures.failed start front f filled cur))

pub returns-in_ok-close-clause-ok : goal.returns-in_ok-close-clause-ok
returns-in_ok-close-clause-ok g c =
    let new = g.F.Shelf.shelved c.close.new.shelf in
    λ start front f filled cur.
    let e = room-made f (sym (c.is_full.ensures f cur) ∙ c.if-is_full.true) in
    let P : Filling → Type 0 = λ x. IsFilled start front x c.close.new.waiting.items new × IsCurrent x c.close.new.current.body.items c.close.new.current.objects c.close.new.current.heap in
    subst P e (c.in_ok-close.ensures.ok start front f filled cur, c.in_ok-close.ensures.begun (closed f))
