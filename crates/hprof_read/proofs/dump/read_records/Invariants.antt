use Rattle.std.proofs.Common.{◌≡◌, ◌+◌, ◌++◌, length}
use Rattle.hprof_records.specs.Records.{bytes_of_records}
use Rattle.hprof_records.specs.Dump.{AreRecords}
use Rattle.hprof_read.proofs.dump.read_records.Given as goal

abbrev pub invariant-loop-rest : goal.invariant-loop-rest
invariant-loop-rest l = record {
  whole : l.bytes ≡ bytes_of_records l.top ++ l.rest;
  formed : AreRecords l.top;
  place : l.end ≡ l.at + length l.bytes;
}

abbrev pub decreases-loop-rest : goal.decreases-loop-rest
decreases-loop-rest l = length l.rest
