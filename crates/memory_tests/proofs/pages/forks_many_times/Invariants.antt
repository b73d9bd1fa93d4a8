use Rattle.std.proofs.Common.{IsTrue}
use Rattle.cow_pages.specs.Memory.{is_live, is_mapped, IsSettled}
use Rattle.memory_tests.proofs.pages.forks_many_times.Given as goal

-- the table has its first page, and no flag
abbrev pub invariant-loop : goal.invariant-loop
invariant-loop g l = record {
  live : IsTrue (is_live l.frames l.t.0);
  settled : IsSettled l.frames l.t.0;
  first : IsTrue (is_mapped l.frames l.t.0 0x20000);
}
