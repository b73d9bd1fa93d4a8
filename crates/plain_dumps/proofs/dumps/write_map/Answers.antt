use Rattle.std.proofs.Common.{ap}
use Rattle.std.specs.Prelude.{OnErr, OnOk}
use Rattle.std.proofs.lemmas.Result.{err_from_is_err_and}
use Rattle.ah_outside.specs.Outside.{Appended}
use Rattle.hprof_write.specs.TableText.{table_text}
use Rattle.hprof_write.specs.Outcomes.{AppendedPrefix}
use Rattle.hprof_write.proofs.Appends.{Appended-none}
use Rattle.plain_dumps.proofs.Seen.{shown}
use Rattle.plain_dumps.proofs.dumps.write_map.Goals as goal

pub returns-in_err-view-clause-failed : goal.returns-in_err-view-clause-failed
returns-in_err-view-clause-failed g c = λ w graph stands h.
    let p = err_from_is_err_and c.from_residual.result c.from_residual.ensures.1 in
    rw p.1 (0, Appended-none (g.F.Shelf.shelved c.args.shelf.now))

pub returns-clause-ok : goal.returns-clause-ok
returns-clause-ok g c = λ w graph stands h.
    let old = g.F.Shelf.shelved c.args.shelf.now in
    let new = g.F.Shelf.shelved c.write_map.new.shelf in
    shown c.args.machine.now c.args.process.now c.in-Some.graph.now c.in-Some.ensures.own w (c.in-Some.ensures.graph w stands) graph h
    (λ x t. OnOk c.write_map.result (Appended old (table_text x t) new)) c.in_ok-view.view.graph (ap (λ v. v.graph) c.in_ok-view.ensures) c.write_map.ensures.ok

pub returns-clause-failed : goal.returns-clause-failed
returns-clause-failed g c = λ w graph stands h.
    let old = g.F.Shelf.shelved c.args.shelf.now in
    let new = g.F.Shelf.shelved c.write_map.new.shelf in
    shown c.args.machine.now c.args.process.now c.in-Some.graph.now c.in-Some.ensures.own w (c.in-Some.ensures.graph w stands) graph h
    (λ x t. OnErr c.write_map.result (AppendedPrefix old (table_text x t) new)) c.in_ok-view.view.graph (ap (λ v. v.graph) c.in_ok-view.ensures) c.write_map.ensures.failed
