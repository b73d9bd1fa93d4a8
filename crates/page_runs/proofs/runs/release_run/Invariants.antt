use Rattle.cow_pages.specs.Memory.{IsSound}
use Rattle.page_runs.specs.Runs.{ReleasesRun}
use Rattle.page_runs.proofs.runs.release_run.Given as goal

-- the pages before this one were released
abbrev pub invariant-loop-i : goal.invariant-loop-i
invariant-loop-i l = record {
  releases : ReleasesRun l.fn.frames l.frames l.t.0 l.first.0 l.i;
  sound : IsSound l.fn.frames → IsSound l.frames;
}
