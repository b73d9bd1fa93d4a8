use Rattle.std.proofs.Common.{inl, inr, refl}
use Rattle.std.proofs.lemmas.Result.{err_from_is_err_and}
use Rattle.script_run.specs.Outside.{Outside, Setting, outside_of, output_of}
use Rattle.script_run.proofs.Inputs.{not_begun, run_over, turns_begin}
use Rattle.script_run.proofs.script.run_script.Goals as goal

pub returns-clause-ended : goal.returns-clause-ended
returns-clause-ended g c =
    let s : Setting = record { budget = c.args.regions; time = c.args.time } in
    let left = g.S.Source.left in
    let reads = g.S.Source.fault_count in
    let told = g.W.Sink.gained in
    let puts = g.W.Sink.fault_count in
    let old : Outside = outside_of (left c.args.source.now) (reads c.args.source.now) (output_of (told c.args.sink.now) (puts c.args.sink.now) (g.F.Shelf.shelved c.args.shelf.now) (g.F.Shelf.fault_count c.args.shelf.now) c.args.machine.now) in
    let mid : Outside = outside_of (left c.run_input.new.source) (reads c.run_input.new.source) (output_of (told c.run_input.new.sink) (puts c.run_input.new.sink) (g.F.Shelf.shelved c.run_input.new.shelf) (g.F.Shelf.fault_count c.run_input.new.shelf) c.run_input.new.machine) in
    let new : Outside = outside_of (left c.run_input.new.source) (reads c.run_input.new.source) (output_of (told c.run_last.new.sink) (puts c.run_last.new.sink) (g.F.Shelf.shelved c.run_last.new.shelf) (g.F.Shelf.fault_count c.run_last.new.shelf) c.run_last.new.machine) in
    let begin_ = turns_begin s c.in_ok-new.field-0 (left c.args.source.now) (reads c.args.source.now) old.output c.prepare.new.self
    c.in_ok-new.ensures c.requires.finished c.in_ok-prepare.ensures.ok in
    let taken = c.in_ok-run_input.ensures.done s old refl begin_ in
    run_over s c.run_input.new.run old mid new
    (record { alone = c.scripts_are_isolated.ensures.alone c.args.regions; told = c.scripts_are_isolated.ensures.names c.args.regions }) taken.0 refl taken.1 c.run_last.result
    (c.run_last.ensures.done s taken.0.text old.output refl taken.0.has_run)

pub returns-in_err-run_input-clause-ended : goal.returns-in_err-run_input-clause-ended
returns-in_err-run_input-clause-ended g c =
    let s : Setting = record { budget = c.args.regions; time = c.args.time } in
    let left = g.S.Source.left in
    let reads = g.S.Source.fault_count in
    let told = g.W.Sink.gained in
    let puts = g.W.Sink.fault_count in
    let old : Outside = outside_of (left c.args.source.now) (reads c.args.source.now) (output_of (told c.args.sink.now) (puts c.args.sink.now) (g.F.Shelf.shelved c.args.shelf.now) (g.F.Shelf.fault_count c.args.shelf.now) c.args.machine.now) in
    let begin_ = turns_begin s c.in_ok-new.field-0 (left c.args.source.now) (reads c.args.source.now) old.output c.prepare.new.self
    c.in_ok-new.ensures c.requires.finished c.in_ok-prepare.ensures.ok in
    let p = err_from_is_err_and c.from_residual-in_err-run_input.result c.from_residual-in_err-run_input.ensures.1 in
    rw (p.1, p.2)
    (c.in_err-run_input.ensures.done s old refl begin_)

pub returns-in_err-prepare-clause-ended : goal.returns-in_err-prepare-clause-ended
returns-in_err-prepare-clause-ended g c =
    let p = err_from_is_err_and c.from_residual.result c.from_residual.ensures.1 in
    rw (p.1, p.2)
    (not_begun (record { budget = c.args.regions; time = c.args.time }) (g.S.Source.left c.args.source.now) (g.S.Source.fault_count c.args.source.now) (output_of (g.W.Sink.gained c.args.sink.now) (g.W.Sink.fault_count c.args.sink.now) (g.F.Shelf.shelved c.args.shelf.now) (g.F.Shelf.fault_count c.args.shelf.now) c.args.machine.now) c.prepare.new.self (inl c.in_err-prepare.ensures.err))

pub returns-in_err-new-clause-ended : goal.returns-in_err-new-clause-ended
returns-in_err-new-clause-ended g c =
    let p = err_from_is_err_and c.from_residual-in_err-new.result c.from_residual-in_err-new.ensures.1 in
    rw (p.1, p.2)
    (not_begun (record { budget = c.args.regions; time = c.args.time }) (g.S.Source.left c.args.source.now) (g.S.Source.fault_count c.args.source.now) (output_of (g.W.Sink.gained c.args.sink.now) (g.W.Sink.fault_count c.args.sink.now) (g.F.Shelf.shelved c.args.shelf.now) (g.F.Shelf.fault_count c.args.shelf.now) c.args.machine.now) c.prepare.new.self (inr c.in_ok-prepare.ensures.ok))
