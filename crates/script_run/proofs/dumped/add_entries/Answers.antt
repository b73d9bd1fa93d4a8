use Rattle.std.proofs.Common.{◌≡◌, ℕ, subst}
use Rattle.std.proofs.lemmas.Result.{MatchResult-weaker, err_from_is_err_and}
use Rattle.ah_outside.specs.Outside.{Shelved}
use Rattle.plain_dumps.specs.Addresses.{addresses}
use Rattle.script_report.specs.Dumps.{Dumping}
use Rattle.script_run.specs.Dumps.{HasEntry, HasEntryPart, map_entry}
use Rattle.script_run.proofs.Dumps.{both_entries, first_part, second_part}
use Rattle.script_run.proofs.dumped.add_entries.Goals as goal

pub returns-in_err-add_dump-clause-done : goal.returns-in_err-add_dump-clause-done
returns-in_err-add_dump-clause-done g c = λ w graph stands h.
    let dumped = c.args.dumped.now in
    let d : Dumping = record { process = dumped.process; count = dumped.count; graph = graph } in
    let p = err_from_is_err_and c.from_residual.result c.from_residual.ensures.1 in
    rw p.1
    (first_part c.args.time d (addresses c.args.machine.now dumped.process) (g.F.Shelf.shelved c.args.shelf.now) (g.F.Shelf.shelved c.add_dump.new.shelf)
    (c.add_dump.ensures.fits w graph stands h) (c.in_err-add_dump.ensures.done w graph stands h))

pub returns-clause-done : goal.returns-clause-done
returns-clause-done g c = λ w graph stands h.
    let dumped = c.args.dumped.now in
    let d : Dumping = record { process = dumped.process; count = dumped.count; graph = graph } in
    let table : ℕ → ℕ = addresses c.args.machine.now dumped.process in
    let old : Shelved = g.F.Shelf.shelved c.args.shelf.now in
    let mid : Shelved = g.F.Shelf.shelved c.add_dump.new.shelf in
    let new : Shelved = g.F.Shelf.shelved c.add_map.new.shelf in
    let fits = c.add_dump.ensures.fits w graph stands h in
    let first = c.in_ok-add_dump.ensures.done w graph stands h in
    let same : addresses c.add_dump.new.machine dumped.process ≡ table = c.add_dump.ensures.addresses in
    MatchResult-weaker c.add_map.result (c.add_map.ensures.done w graph (c.add_dump.ensures.stands w stands) h)
    (λ _ e. both_entries c.args.time d table old mid new fits first (subst (λ t. HasEntry (map_entry d t) mid new) same e))
    (λ _ e. second_part c.args.time d table old mid new fits first (subst (λ t. HasEntryPart (map_entry d t) mid new) same e))
