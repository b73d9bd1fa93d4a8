use Rattle.std.proofs.lemmas.Result.{on_ok_weaker, on_err_weaker}
use Rattle.hprof_write.proofs.Appends.{AppendedBut-put, AppendedBut-prefix}
use Rattle.hprof_write.proofs.pieces.put_rest.Goals as goal

pub returns-clause-ok : goal.returns-clause-ok
returns-clause-ok g c =
    on_ok_weaker c.put.result
    (λ h start bytes but. AppendedBut-put start (g.F.Shelf.shelved c.args.shelf.now) (g.F.Shelf.shelved c.put.new.self) bytes c.args.waiting.now but h)
    c.put.ensures.ok

pub returns-clause-failed : goal.returns-clause-failed
returns-clause-failed g c =
    on_err_weaker c.put.result
    (λ h start bytes but. AppendedBut-prefix start (g.F.Shelf.shelved c.args.shelf.now) (g.F.Shelf.shelved c.put.new.self) bytes c.args.waiting.now h.0 but h.1)
    c.put.ensures.failed
