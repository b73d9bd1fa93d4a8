use Rattle.std.proofs.Common.{take}
use Rattle.cow_pages.specs.Memory.{IsSound}
use Rattle.large_objects.specs.Pages.{ReleasesRows}
use Rattle.large_objects.specs.Rows.{dead}
use Rattle.large_objects.proofs.table.release_pages.Given as goal

-- the pages of the dead rows before this one were released
abbrev pub invariant-loop-row : goal.invariant-loop-row
invariant-loop-row l = record {
  releases : ReleasesRows l.fn.frames l.frames l.t.0 (dead (take l.row-index l.rows));
  sound : IsSound l.fn.frames → IsSound l.frames;
}
