use Rattle.std.proofs.Common.{◌≡◌, ◌-◌}
use Rattle.hprof_read.specs.Reading.{times}
use Rattle.hprof_wide.specs.Reading.{field_name}
use Rattle.hprof_read.proofs.Loop.{with_front}
use Rattle.hprof_wide.proofs.class_parts.so_many_fields.Given as goal

abbrev pub invariant-loop : goal.invariant-loop
invariant-loop l = with_front l.list (times (l.count - l.counter) (field_name l.size) l.rest) ≡ times l.count (field_name l.size) l.bytes
