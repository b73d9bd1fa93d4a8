use Rattle.std.proofs.Common.{◌≡◌, ◌+◌, ◌++◌, length}
use Rattle.hprof_wide.specs.Records.{wide_records_bytes}
use Rattle.hprof_wide.specs.Dump.{AreWideRecords}
use Rattle.hprof_wide.specs.Reading.{width_of}
use Rattle.hprof_wide.proofs.dump.read_records.Given as goal

abbrev pub invariant-loop-rest : goal.invariant-loop-rest
invariant-loop-rest l = record {
  whole : l.bytes ≡ wide_records_bytes (width_of l.size) l.top ++ l.rest;
  formed : AreWideRecords (width_of l.size) l.top;
  place : l.end ≡ l.at + length l.bytes;
}

abbrev pub decreases-loop-rest : goal.decreases-loop-rest
decreases-loop-rest l = length l.rest
