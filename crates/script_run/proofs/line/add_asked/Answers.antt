use Rattle.std.proofs.Common.{◌≡◌, [], List, subst, sym}
use Rattle.std.proofs.lemmas.Result.{MatchResult-weaker}
use Rattle.ah_outside.specs.Outside.{Shelved}
use Rattle.script_report.specs.Dumps.{Dumping}
use Rattle.script_run.specs.Dumps.{HasShelved, IsAsked}
use Rattle.script_run.proofs.Dumps.{shelved-none}
use Rattle.script_run.proofs.line.add_asked.Goals as goal

pub returns-in-Some-clause-done : goal.returns-in-Some-clause-done
returns-in-Some-clause-done g c = λ w ds stands asked.
    let one = subst (λ o. IsAsked o ds w) c.in-Some.is asked in
    let d : Dumping = record { process = c.in-Some.dumped.process; count = c.in-Some.dumped.count; graph = one.0 } in
    let old : Shelved = g.F.Shelf.shelved c.args.shelf.now in
    let new : Shelved = g.F.Shelf.shelved c.add_entries.new.shelf in
    MatchResult-weaker c.add_entries.result (c.add_entries.ensures.done w one.0 stands one.1)
    (λ _ all. subst (λ (xs : List Dumping). HasShelved c.args.time xs old new) (sym one.2) all)
    (λ _ part. (d, one.2, part))

pub returns-in-None-clause-done : goal.returns-in-None-clause-done
returns-in-None-clause-done g c = λ w ds stands asked.
    let none : ds ≡ [] = subst (λ o. IsAsked o ds w) c.in-None.is asked in
    let old : Shelved = g.F.Shelf.shelved c.args.shelf.now in
    subst (λ (xs : List Dumping). HasShelved c.args.time xs old old) (sym none) (shelved-none c.args.time old c.requires.finished)
