use Rattle.std.proofs.Common.{◌≡◌, length, take}
use Rattle.std.specs.List.{flat_map}
use Rattle.hprof_wide.specs.Parts.{wide_static_bytes}
use Rattle.hprof_convert.proofs.missing.wide_statics_size.Given as goal

abbrev pub invariant-loop-one : goal.invariant-loop-one
invariant-loop-one l = l.size ≡ length (flat_map (wide_static_bytes l.width) (take l.one-index l.list))
