use Rattle.std.proofs.Common.{◌≡◌, ◌≤◌, false, length}
use Rattle.model_numbers.specs.Numbers.{input_limit, piece_bytes}
use Rattle.script_run.specs.Outside.{Outside, Setting, outside_of, output_of}
use Rattle.script_run.specs.Progress.{HasTaken, IsGoing}
use Rattle.script_run.proofs.input.run_input.Given as goal

abbrev pub invariant-loop : goal.invariant-loop
invariant-loop g l =
    let left = g.S.Source.left in
    let reads = g.S.Source.fault_count in
    let told = g.W.Sink.gained in
    let puts = g.W.Sink.fault_count in
    record {
      piece : length l.buf ≡ piece_bytes;
      going : IsGoing l.run;
      room : l.run.room ≤ input_limit;
      source_faults : reads l.fn.source ≤ reads l.source;
      finished : (g.F.Shelf.shelved l.shelf).unfinished ≡ false;
      sink_faults : puts l.fn.sink ≤ puts l.sink;
      shelf_faults : g.F.Shelf.fault_count l.fn.shelf ≤ g.F.Shelf.fault_count l.shelf;
      so_far : (s : Setting) (old : Outside) → s.time ≡ l.time → HasTaken s l.fn.run old (outside_of (left l.fn.source) (reads l.fn.source) (output_of (told l.fn.sink) (puts l.fn.sink) (g.F.Shelf.shelved l.fn.shelf) (g.F.Shelf.fault_count l.fn.shelf) l.fn.machine))
          → HasTaken s l.run old (outside_of (left l.source) (reads l.source) (output_of (told l.sink) (puts l.sink) (g.F.Shelf.shelved l.shelf) (g.F.Shelf.fault_count l.shelf) l.machine));
    }

abbrev pub decreases-loop : goal.decreases-loop
decreases-loop g l = l.run.room
