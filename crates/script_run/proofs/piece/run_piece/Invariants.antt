use Rattle.std.proofs.Common.{◌≡◌, ℕ, ◌+◌, ◌-◌, ◌≤◌, ◌||◌, ◌++◌, Bool, false, List, length, take}
use Rattle.script_run.specs.Outside.{Output, Setting, output_of}
use Rattle.script_run.specs.Progress.{HasRun}
use Rattle.script_run.proofs.piece.run_piece.Given as goal

abbrev pub invariant-loop-fed : goal.invariant-loop-fed
invariant-loop-fed g l =
    let told = g.W.Sink.gained in
    let faults = g.W.Sink.fault_count in
    record {
      within : l.fed ≤ length l.piece;
      going : (l.feed.whole ≡ false) × (l.feed.ended ≡ false);
      few : l.feed.number ≤ l.fn.feed.number + l.fed;
      finished : (g.F.Shelf.shelved l.shelf).unfinished ≡ false;
      never_falls : faults l.fn.sink ≤ faults l.sink;
      shelf_never_falls : g.F.Shelf.fault_count l.fn.shelf ≤ g.F.Shelf.fault_count l.shelf;
      so_far : (s : Setting) (text : List ℕ) (old : Output) (refused : Bool) → s.time ≡ l.time → HasRun s text l.fn.feed refused old (output_of (told l.fn.sink) (faults l.fn.sink) (g.F.Shelf.shelved l.fn.shelf) (g.F.Shelf.fault_count l.fn.shelf) l.fn.machine)
          → HasRun s (text ++ take l.fed l.piece) l.feed (refused || l.refused) old (output_of (told l.sink) (faults l.sink) (g.F.Shelf.shelved l.shelf) (g.F.Shelf.fault_count l.shelf) l.machine);
    }

abbrev pub decreases-loop-fed : goal.decreases-loop-fed
decreases-loop-fed g l = length l.piece - l.fed
