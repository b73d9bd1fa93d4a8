use Rattle.std.proofs.Common.{◌≡◌, length, take}
use Rattle.hprof_records.specs.Parts.{bytes_of_parts}
use Rattle.hprof_convert.proofs.sizes.parts_size.Given as goal

abbrev pub invariant-loop-part : goal.invariant-loop-part
invariant-loop-part l = l.size ≡ length (bytes_of_parts (take l.part-index l.parts))
