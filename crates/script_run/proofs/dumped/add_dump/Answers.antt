use Rattle.std.proofs.Common.{refl}
use Rattle.std.proofs.lemmas.Result.{err_from_is_err_and}
use Rattle.ah_outside.specs.Outside.{Entry}
use Rattle.plain_dumps.specs.Addresses.{addresses}
use Rattle.script_report.specs.Dumps.{Dumping}
use Rattle.script_run.specs.Dumps.{dump_entry}
use Rattle.script_run.proofs.Entries.{put_begun, put_part, put_unclosed, put_whole}
use Rattle.script_run.proofs.dumped.add_dump.Goals as goal

pub returns-in_err-begin_entry-clause-done : goal.returns-in_err-begin_entry-clause-done
returns-in_err-begin_entry-clause-done g c = λ w graph stands h.
    let dumped = c.args.dumped.now in
    let d : Dumping = record { process = dumped.process; count = dumped.count; graph = graph } in
    let whole : Entry = dump_entry c.args.time d (addresses c.args.machine.now dumped.process) in
    let p = err_from_is_err_and c.from_residual.result c.from_residual.ensures.1 in
    rw p.1 (put_begun whole (g.F.Shelf.shelved c.args.shelf.now) (g.F.Shelf.shelved c.begin_entry.new.shelf) c.in_err-begin_entry.ensures.done)

pub returns-in_err-write_dump-clause-done : goal.returns-in_err-write_dump-clause-done
returns-in_err-write_dump-clause-done g c = λ w graph stands h.
    let dumped = c.args.dumped.now in
    let d : Dumping = record { process = dumped.process; count = dumped.count; graph = graph } in
    let whole : Entry = dump_entry c.args.time d (addresses c.args.machine.now dumped.process) in
    let p = err_from_is_err_and c.from_residual-in_err-write_dump.result c.from_residual-in_err-write_dump.ensures.1 in
    rw p.1
    (put_part whole (g.F.Shelf.shelved c.args.shelf.now) (g.F.Shelf.shelved c.begin_entry.new.shelf) (g.F.Shelf.shelved c.write_dump.new.shelf)
    c.in_ok-begin_entry.ensures.done (c.in_err-write_dump.ensures.failed w graph stands h))

pub returns-in_err-finish-clause-done : goal.returns-in_err-finish-clause-done
returns-in_err-finish-clause-done g c = λ w graph stands h.
    let dumped = c.args.dumped.now in
    let d : Dumping = record { process = dumped.process; count = dumped.count; graph = graph } in
    let whole : Entry = dump_entry c.args.time d (addresses c.args.machine.now dumped.process) in
    let p = err_from_is_err_and c.from_residual-in_err-finish.result c.from_residual-in_err-finish.ensures.1 in
    rw p.1
    (put_unclosed whole (g.F.Shelf.shelved c.args.shelf.now) (g.F.Shelf.shelved c.begin_entry.new.shelf) (g.F.Shelf.shelved c.write_dump.new.shelf) (g.F.Shelf.shelved c.finish.new.self)
    c.in_ok-begin_entry.ensures.done (c.in_ok-write_dump.ensures.ok w graph stands h) c.in_err-finish.ensures.failed)

pub returns-clause-done : goal.returns-clause-done
returns-clause-done g c = λ w graph stands h.
    let dumped = c.args.dumped.now in
    let d : Dumping = record { process = dumped.process; count = dumped.count; graph = graph } in
    let whole : Entry = dump_entry c.args.time d (addresses c.args.machine.now dumped.process) in
    put_whole whole (g.F.Shelf.shelved c.args.shelf.now) (g.F.Shelf.shelved c.begin_entry.new.shelf) (g.F.Shelf.shelved c.write_dump.new.shelf) (g.F.Shelf.shelved c.finish.new.self)
    refl c.in_ok-begin_entry.ensures.done (c.in_ok-write_dump.ensures.ok w graph stands h) c.in_ok-finish.ensures.ok
