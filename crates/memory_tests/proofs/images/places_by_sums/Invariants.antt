use Rattle.std.proofs.Common.{IsTrue}
use Rattle.cow_pages.specs.Memory.{is_live}
use Rattle.image_space.specs.Space.{HasPagesUpTo}
use Rattle.memory_tests.proofs.images.places_by_sums.Given as goal

-- the table suits the space
abbrev pub invariant-loop : goal.invariant-loop
invariant-loop g l = record {
  live : IsTrue (is_live l.frames l.t.0);
  pages : HasPagesUpTo l.frames l.t.0 l.space.fill;
}
