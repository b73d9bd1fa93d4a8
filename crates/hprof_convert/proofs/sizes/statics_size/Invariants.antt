use Rattle.std.proofs.Common.{◌≡◌, length, take}
use Rattle.std.specs.List.{flat_map}
use Rattle.hprof_records.specs.Parts.{static_bytes}
use Rattle.hprof_convert.proofs.sizes.statics_size.Given as goal

abbrev pub invariant-loop-one : goal.invariant-loop-one
invariant-loop-one l = l.size ≡ length (flat_map static_bytes (take l.one-index l.list))
