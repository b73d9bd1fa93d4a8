use Rattle.std.proofs.Common.{◌≡◌, take}
use Rattle.std.specs.List.{filter_map}
use Rattle.hprof_convert.specs.Converted.{converted_record}
use Rattle.hprof_convert.proofs.converted.converted_records.Given as goal

abbrev pub invariant-loop-one : goal.invariant-loop-one
invariant-loop-one l = l.top ≡ filter_map (converted_record l.width l.classes l.names) (take l.one-index l.records)
