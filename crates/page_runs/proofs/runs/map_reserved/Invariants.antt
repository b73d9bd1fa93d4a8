use Rattle.cow_pages.specs.Memory.{IsSound}
use Rattle.page_runs.proofs.RunLemmas.{IsMapping}
use Rattle.page_runs.proofs.runs.map_reserved.Given as goal

-- the pages before this one were mapped
abbrev pub invariant-loop-i : goal.invariant-loop-i
invariant-loop-i l = record {
  maps : IsMapping l.fn.frames l.frames l.t.0 l.first.0 l.i;
  sound : IsSound l.frames;
}
