use Rattle.std.proofs.Common.{◌≡◌, ◌-◌}
use Rattle.hprof_read.specs.Reading.{times}
use Rattle.hprof_wide.specs.Reading.{ident}
use Rattle.hprof_read.proofs.Loop.{with_front}
use Rattle.hprof_wide.proofs.ids.read_ids.Given as goal

abbrev pub invariant-loop : goal.invariant-loop
invariant-loop l = with_front l.list (times (l.count - l.counter) (ident l.size) l.rest) ≡ times l.count (ident l.size) l.bytes
