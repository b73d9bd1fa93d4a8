use Rattle.std.proofs.Common.{◌≡◌, ◌-◌}
use Rattle.std.specs.Int.{w32}
use Rattle.hprof_read.specs.Reading.{times, number}
use Rattle.hprof_read.proofs.Loop.{with_front}
use Rattle.hprof_read.proofs.fields.words.Given as goal

abbrev pub invariant-loop : goal.invariant-loop
invariant-loop l = with_front l.ids (times (l.count - l.counter) (number w32) l.rest) ≡ times l.count (number w32) l.bytes
