use Rattle.std.proofs.Common.{ℕ, List, sym, subst}
use Rattle.hprof_write.specs.Outcomes.{AppendedBut}
use Rattle.hprof_write.proofs.Appends.{AppendedBut-all}
use Rattle.hprof_write.proofs.pieces.put_piece.Goals as goal

pub returns-in_ok-put_rest-clause-ok : goal.returns-in_ok-put_rest-clause-ok
returns-in_ok-put_rest-clause-ok g c =
    λ start bytes but.
    let old = g.F.Shelf.shelved c.args.shelf.now in
    let new = g.F.Shelf.shelved c.put_rest.new.shelf in
    let waits = subst (λ (l : List ℕ). AppendedBut start bytes l old) (sym c.deref.ensures.value) but in
    let all = AppendedBut-all start new bytes (c.in_ok-put_rest.ensures.ok start bytes waits) in
    subst (λ (l : List ℕ). AppendedBut start bytes l new) (sym c.clear.ensures.items) all
