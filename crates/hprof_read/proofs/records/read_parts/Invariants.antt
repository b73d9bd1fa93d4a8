use Rattle.std.proofs.Common.{◌≡◌, ◌+◌, ◌++◌, length, All}
use Rattle.hprof_records.specs.Parts.{bytes_of_parts}
use Rattle.hprof_records.specs.Formed.{IsPart}
use Rattle.hprof_read.proofs.records.read_parts.Given as goal

abbrev pub invariant-loop-rest : goal.invariant-loop-rest
invariant-loop-rest l = record {
  whole : l.body ≡ bytes_of_parts l.parts ++ l.rest;
  formed : All IsPart l.parts;
  place : l.end ≡ l.at + length l.body;
}

abbrev pub decreases-loop-rest : goal.decreases-loop-rest
decreases-loop-rest l = length l.rest
