use Rattle.std.proofs.Common.{◌≡◌, ℕ, ◌<◌, ◌≤◌, ◌||◌, ◌++◌, List, length, length-take, take, refl, ap, subst, arith}
use Rattle.std.proofs.lemmas.List.{take_all}
use Rattle.std.proofs.lemmas.Result.{err_from_is_err_and}
use Rattle.model_numbers.specs.Numbers.{piece_bytes}
use Rattle.script_run.specs.Outside.{Outside, outside_of, output_of}
use Rattle.script_run.specs.Progress.{HasRun}
use Rattle.job_status.proofs.Inputs.{nothing_given}
use Rattle.script_run.proofs.Inputs.{not_more, takes_too_many, turn_goes_on, turn_reads_no_more, turn_stops}
use Rattle.script_run.proofs.input.take_piece.Goals as goal

pub returns-in_default-clause-done : goal.returns-in_default-clause-done
returns-in_default-clause-done g c = λ s old timed h.
    let left = g.S.Source.left in
    let reads = g.S.Source.fault_count in
    let told = g.W.Sink.gained in
    let puts = g.W.Sink.fault_count in
    let mid : Outside = outside_of (left c.args.source.now) (reads c.args.source.now) (output_of (told c.args.sink.now) (puts c.args.sink.now) (g.F.Shelf.shelved c.args.shelf.now) (g.F.Shelf.fault_count c.args.shelf.now) c.args.machine.now) in
    let new : Outside = outside_of (left c.take.new.self) (reads c.take.new.self) (output_of (told c.args.sink.now) (puts c.args.sink.now) (g.F.Shelf.shelved c.args.shelf.now) (g.F.Shelf.fault_count c.args.shelf.now) c.args.machine.now) in
    turn_reads_no_more s c.args.run.now old mid new h c.in_default.ensures.failed refl c.take.ensures.never_falls c.in_default.ensures.cause

pub returns-in_err-run-clause-done : goal.returns-in_err-run-clause-done
returns-in_err-run-clause-done g c = λ s old timed h.
    let left = g.S.Source.left in
    let reads = g.S.Source.fault_count in
    let told = g.W.Sink.gained in
    let puts = g.W.Sink.fault_count in
    let run = c.args.run.now in
    let taken : List ℕ = take c.in-Ok.count c.take.new.buf in
    let mid : Outside = outside_of (left c.args.source.now) (reads c.args.source.now) (output_of (told c.args.sink.now) (puts c.args.sink.now) (g.F.Shelf.shelved c.args.shelf.now) (g.F.Shelf.fault_count c.args.shelf.now) c.args.machine.now) in
    let new : Outside = outside_of (left c.take.new.self) (reads c.take.new.self) (output_of (told c.run_piece.new.sink) (puts c.run_piece.new.sink) (g.F.Shelf.shelved c.run_piece.new.shelf) (g.F.Shelf.fault_count c.run_piece.new.shelf) c.run_piece.new.machine) in
    let short : length taken ≤ piece_bytes = omega (arith, c.requires.piece, c.take.auto.buf, length-take c.in-Ok.count c.take.new.buf) in
    let room : length (take c.min-within.result taken) ≤ run.room = omega (arith, c.min-within.ensures, length-take c.min-within.result taken) in
    let p = err_from_is_err_and c.from_residual.result c.from_residual.ensures.1 in
    rw (p.1, p.2)
    (turn_stops s run taken c.min-within.result old mid new h c.in-Ok.ensures.gave short room c.in_err-run.field-0.0
    (c.in_err-run.ensures.done s h.text old.output run.refused timed h.has_run))

pub returns-then-within-taken-clause-done : goal.returns-then-within-taken-clause-done
returns-then-within-taken-clause-done g c = λ s old timed h.
    let left = g.S.Source.left in
    let reads = g.S.Source.fault_count in
    let told = g.W.Sink.gained in
    let puts = g.W.Sink.fault_count in
    let run = c.args.run.now in
    let taken : List ℕ = take c.in-Ok.count c.take.new.buf in
    let mid : Outside = outside_of (left c.args.source.now) (reads c.args.source.now) (output_of (told c.args.sink.now) (puts c.args.sink.now) (g.F.Shelf.shelved c.args.shelf.now) (g.F.Shelf.fault_count c.args.shelf.now) c.args.machine.now) in
    let new : Outside = outside_of (left c.take.new.self) (reads c.take.new.self) (output_of (told c.run_piece.new.sink) (puts c.run_piece.new.sink) (g.F.Shelf.shelved c.run_piece.new.shelf) (g.F.Shelf.fault_count c.run_piece.new.shelf) c.run_piece.new.machine) in
    let short : length taken ≤ piece_bytes = omega (arith, c.requires.piece, c.take.auto.buf, length-take c.in-Ok.count c.take.new.buf) in
    let is : c.min-within.result ≡ run.room = omega (arith, c.min-within.ensures, c.if-within-taken.true) in
    let more : run.room < length taken = omega (arith, is, c.if-within-taken.true) in
    let refused = run.refused || c.in_ok-run.field-0 in
    takes_too_many s run taken c.run_piece.new.feed refused old mid new h c.in-Ok.ensures.gave more short
    (subst (λ k. HasRun s (h.text ++ take k taken) c.run_piece.new.feed refused old.output new.output) is
    (c.in_ok-run.ensures.done s h.text old.output run.refused timed h.has_run))

pub returns-clause-done : goal.returns-clause-done
returns-clause-done g c = λ s old timed h.
    let left = g.S.Source.left in
    let reads = g.S.Source.fault_count in
    let told = g.W.Sink.gained in
    let puts = g.W.Sink.fault_count in
    let run = c.args.run.now in
    let count = c.in-Ok.count in
    let taken : List ℕ = take count c.take.new.buf in
    let mid : Outside = outside_of (left c.args.source.now) (reads c.args.source.now) (output_of (told c.args.sink.now) (puts c.args.sink.now) (g.F.Shelf.shelved c.args.shelf.now) (g.F.Shelf.fault_count c.args.shelf.now) c.args.machine.now) in
    let new : Outside = outside_of (left c.take.new.self) (reads c.take.new.self) (output_of (told c.run_piece.new.sink) (puts c.run_piece.new.sink) (g.F.Shelf.shelved c.run_piece.new.shelf) (g.F.Shelf.fault_count c.run_piece.new.shelf) c.run_piece.new.machine) in
    let all : length taken ≤ c.min-within.result = omega (arith, c.min-within.ensures, c.if-within-taken.false) in
    let refused = run.refused || c.in_ok-run.field-0 in (
      turn_goes_on s run _ taken old mid new h c.in-Ok.ensures.gave c.take.ensures.never_falls (omega (arith, all, c.min-within.ensures))
          (subst (λ (xs : List ℕ). HasRun s (h.text ++ xs) c.run_piece.new.feed refused old.output new.output) (take_all c.min-within.result taken all)
          (c.in_ok-run.ensures.done s h.text old.output run.refused timed h.has_run)),
      λ none.
          let zero_ : count ≡ 0 = not_more count none in
          nothing_given count taken (left c.args.source.now) (left c.take.new.self) c.in-Ok.ensures.gave c.in-Ok.ensures.end zero_ (ap (λ n. take n c.take.new.buf) zero_),
    )
