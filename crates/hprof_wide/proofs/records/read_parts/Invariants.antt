use Rattle.std.proofs.Common.{◌≡◌, ◌+◌, ◌++◌, length, All}
use Rattle.hprof_wide.specs.Parts.{wide_parts_bytes}
use Rattle.hprof_wide.specs.Formed.{IsWidePart}
use Rattle.hprof_wide.specs.Reading.{width_of}
use Rattle.hprof_wide.proofs.records.read_parts.Given as goal

abbrev pub invariant-loop-rest : goal.invariant-loop-rest
invariant-loop-rest l = record {
  whole : l.body ≡ wide_parts_bytes (width_of l.size) l.parts ++ l.rest;
  formed : All (IsWidePart (width_of l.size)) l.parts;
  place : l.end ≡ l.at + length l.body;
}

abbrev pub decreases-loop-rest : goal.decreases-loop-rest
decreases-loop-rest l = length l.rest
