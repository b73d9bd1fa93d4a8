-- The bytes of the parts of a segment: their fields in order.
use Rattle.std.specs.Prelude.{ℕ, List, [], ◌∷◌, Option, None, Some, length}
use Rattle.std.specs.List.{concat, flat_map}
use Rattle.hprof_records.specs.declared.sub_record.SubRecord.{SubRecord}
use Rattle.hprof_records.specs.declared.sub_record.SubRecord.TheVariants.{Root, HeapInfo, ClassDump, Instance, ObjectArray, PrimitiveArray, NoData}
use Rattle.hprof_records.specs.Fields.{field}

-- an identifier, or another number of 4 bytes
abbrev pub word : ℕ → List ℕ
word number = field 4 number

-- a field that a root has or hasn't
abbrev pub further_bytes : Option ℕ → List ℕ
further_bytes None = []
further_bytes (Some number) = word number

-- a constant of a class: its index, its type, its value
abbrev pub constant_bytes : ℕ × ℕ × List ℕ → List ℕ
constant_bytes c = concat (field 2 c.0 ∷ field 1 c.1 ∷ c.2 ∷ [])

-- a static field of a class: its name, its type, its value
abbrev pub static_bytes : ℕ × ℕ × List ℕ → List ℕ
static_bytes s = concat (word s.0 ∷ field 1 s.1 ∷ s.2 ∷ [])

-- a field of a class: its name, its type
abbrev pub field_name_bytes : ℕ × ℕ → List ℕ
field_name_bytes f = concat (word f.0 ∷ field 1 f.1 ∷ [])

-- a part of a segment: its tag and its fields
abbrev pub bytes_of_part : SubRecord → List ℕ
bytes_of_part (Root tag id first second) =
    concat (field 1 tag ∷ word id ∷ further_bytes first ∷ further_bytes second ∷ [])
bytes_of_part (HeapInfo heap name) =
    concat (field 1 0xfe ∷ word heap ∷ word name ∷ [])
bytes_of_part (ClassDump id stack parent loader signers domain spare_a spare_b size constants statics fields) =
    concat (field 1 0x20 ∷ word id ∷ word stack ∷ word parent ∷ word loader ∷ word signers ∷ word domain
    ∷ word spare_a ∷ word spare_b ∷ word size
    ∷ field 2 (length constants) ∷ flat_map constant_bytes constants
    ∷ field 2 (length statics) ∷ flat_map static_bytes statics
    ∷ field 2 (length fields) ∷ flat_map field_name_bytes fields ∷ [])
bytes_of_part (Instance id stack class bytes) =
    concat (field 1 0x21 ∷ word id ∷ word stack ∷ word class ∷ word (length bytes) ∷ bytes ∷ [])
bytes_of_part (ObjectArray id stack class items) =
    concat (field 1 0x22 ∷ word id ∷ word stack ∷ word (length items) ∷ word class ∷ flat_map word items ∷ [])
bytes_of_part (PrimitiveArray id stack code count bytes) =
    concat (field 1 0x23 ∷ word id ∷ word stack ∷ word count ∷ field 1 code ∷ bytes ∷ [])
bytes_of_part (NoData id stack count code) =
    concat (field 1 0xc3 ∷ word id ∷ word stack ∷ word count ∷ field 1 code ∷ [])

-- the parts of a segment, one after another
abbrev pub bytes_of_parts : List SubRecord → List ℕ
bytes_of_parts parts = flat_map bytes_of_part parts
