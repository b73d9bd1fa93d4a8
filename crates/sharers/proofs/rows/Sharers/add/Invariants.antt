use Rattle.std.proofs.Common.{◌≡◌, ◌+◌, ◌++◌, ◌≤◌, length}
use Rattle.std.specs.Prelude.{replicate}
use Rattle.sharers.specs.Shares.{AreTallied}
use Rattle.sharers.proofs.rows.Sharers.add.Given as goal

abbrev pub invariant-loop-i : goal.invariant-loop-i
invariant-loop-i l = record {
  counts : l.self.counts ≡ l.fn.self.counts ++ replicate l._i 0;
  spare : l.self.spare ≡ l.fn.self.spare + l._i;
  room : length l.fn.self.counts + l.fn.more ≤ l.self.room;
  tallied : AreTallied l.self;
}
