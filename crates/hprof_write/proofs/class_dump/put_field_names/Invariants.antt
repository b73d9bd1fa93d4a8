use Rattle.std.proofs.Common.{◌≡◌, ◌++◌, take, map}
use Rattle.std.specs.List.{flat_map}
use Rattle.hprof_records.specs.Parts.{field_name_bytes}
use Rattle.hprof_write.specs.Classes.{field_entry}
use Rattle.hprof_write.proofs.class_dump.put_field_names.Given as goal

abbrev pub invariant-loop-f : goal.invariant-loop-f
invariant-loop-f l = l.out.items ≡ l.initial.out.items ++ flat_map field_name_bytes (map (field_entry l.strings.keys) (take l.f-index l.fields))
