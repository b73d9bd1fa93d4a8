-- To what a part of a dump refers.
use Rattle.std.specs.Prelude.{ℕ, nat_eq, nat_le, List, [], ◌∷◌, length, take, drop, sum_by, Option, None, Some, if◌then◌else◌}
use Rattle.std.specs.List.{cons_option, filter_map}
use Rattle.std.specs.Int.{w32, from_be_bytes}
use Rattle.hprof_records.specs.declared.sub_record.SubRecord.{SubRecord}
use Rattle.hprof_records.specs.declared.sub_record.SubRecord.TheVariants.{ClassDump, Instance, ObjectArray}
use Rattle.hprof_records.specs.Types.{value_bytes}
use Rattle.dump_graph.specs.Classes.{Class, layout}

-- the code of the type of references
abbrev pub reference_code : ℕ
reference_code = 2

-- the identifier that stands first in some bytes, where they are enough
abbrev pub first_id : List ℕ → Option ℕ
first_id bytes = if nat_le 4 (length bytes) then Some (from_be_bytes w32 (take 4 bytes)) else None

-- the identifier that a value of a type is, where it is a reference
abbrev pub reference : ℕ → List ℕ → Option ℕ
reference code value = if nat_eq code reference_code then first_id value else None

-- the references among values that stand one after another, by their types
abbrev pub references_in : List ℕ → List ℕ → List ℕ
references_in [] bytes = []
references_in (code ∷ codes) bytes = cons_option (reference code bytes) (references_in codes (drop (value_bytes code) bytes))

-- the references of an instance's values, where it has a layout: its fields' types are known, and their sizes add up to
-- its bytes
abbrev pub instance_references : Option (List ℕ) → List ℕ → List ℕ
instance_references None bytes = []
instance_references (Some codes) bytes = if nat_eq (sum_by value_bytes codes) (length bytes) then references_in codes bytes else []

-- the identifiers to which a part refers: an instance by its values, an array of objects by its elements, a class dump by
-- its static fields
abbrev pub references : List Class → SubRecord → List ℕ
references known (Instance id stack class bytes) = instance_references (layout known class) bytes
references known (ObjectArray id stack class items) = items
references known (ClassDump id stack parent loader signers domain spare_a spare_b size constants statics fields) =
    filter_map (λ s. reference s.1 s.2) statics
references known _ = []
