use Rattle.std.proofs.Common.{◌≡◌, ◌++◌, List, length}
use Rattle.cow_pages.specs.Memory.{IsSound}
use Rattle.region_lists.specs.Rows.{Row}
use Rattle.region_space.specs.Pages.{ReleasesRows, page_sum}
use Rattle.region_space.specs.Space.{AreAlone, HasBytesFor, HasPages, IsSpace, filled}
use Rattle.region_space.proofs.space.Regions.drop_from.Given as goal

-- the from regions so far were released
abbrev pub invariant-loop-row : goal.invariant-loop-row
invariant-loop-row l = record {
  done : List Row;
  from : l.fn.self.from ≡ done ++ l.self-inside.lists.from;
  in_use : l.self-inside.lists.in_use ≡ l.fn.self.in_use;
  count : l.self-inside.lists.count ≡ l.fn.self.count;
  space : IsSpace l.self-inside.lists;
  objects : l.self-inside.objects ≡ l.fn.self.objects;
  enough : HasBytesFor l.self-inside.lists.in_use l.self-inside.objects;
  pages : l.self-inside.pages ≡ page_sum (filled l.self-inside.lists);
  releases : ReleasesRows l.fn.frames l.frames l.t.0 done;
  has : HasPages l.frames l.t.0 (filled l.self-inside.lists);
  alone : AreAlone l.frames l.t.0 l.self-inside.lists.from;
  sound : IsSound l.fn.frames → IsSound l.frames;
}

abbrev pub decreases-loop-row : goal.decreases-loop-row
decreases-loop-row l = length l.self-inside.lists.from
