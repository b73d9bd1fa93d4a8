-- The bytes of the parts of a wide segment: their fields in order. An identifier has w bytes.
use Rattle.std.specs.Prelude.{ℕ, nat_eq, List, [], ◌∷◌, Option, None, Some, length, if◌then◌else◌}
use Rattle.std.specs.List.{concat, flat_map}
use Rattle.hprof_wide.specs.declared.wide_sub.WideSub.{WideSub}
use Rattle.hprof_wide.specs.declared.wide_sub.WideSub.TheVariants.{Root, HeapInfo, ClassDump, Instance, ObjectArray, PrimitiveArray, NoData}
use Rattle.hprof_records.specs.Fields.{field}
use Rattle.hprof_records.specs.Types.{value_bytes}
use Rattle.hprof_records.specs.Parts.{word, constant_bytes}

-- the bytes of a value, by the type's code: those of a reference are an identifier's
abbrev pub wide_value_bytes : ℕ → ℕ → ℕ
wide_value_bytes w code = if nat_eq code 2 then w else value_bytes code

-- the bytes of the one further field of a root: that of a global reference of JNI, 0x01, is an identifier
abbrev pub further_width : ℕ → ℕ → ℕ
further_width w tag = if nat_eq tag 0x01 then w else 4

-- the further fields of a root with this tag
abbrev pub further_fields : ℕ → ℕ → Option ℕ → Option ℕ → List ℕ
further_fields w tag None None = []
further_fields w tag (Some first) None = field (further_width w tag) first
further_fields w tag (Some first) (Some second) = concat (word first ∷ word second ∷ [])
further_fields w tag None (Some second) = word second

-- a static field of a class: its name, its type, its value
abbrev pub wide_static_bytes : ℕ → ℕ × ℕ × List ℕ → List ℕ
wide_static_bytes w s = concat (field w s.0 ∷ field 1 s.1 ∷ s.2 ∷ [])

-- a field of a class: its name, its type
abbrev pub wide_field_name_bytes : ℕ → ℕ × ℕ → List ℕ
wide_field_name_bytes w f = concat (field w f.0 ∷ field 1 f.1 ∷ [])

-- a part of a segment: its tag and its fields
abbrev pub wide_part_bytes : ℕ → WideSub → List ℕ
wide_part_bytes w (Root tag id first second) =
    concat (field 1 tag ∷ field w id ∷ further_fields w tag first second ∷ [])
wide_part_bytes w (HeapInfo heap name) =
    concat (field 1 0xfe ∷ word heap ∷ field w name ∷ [])
wide_part_bytes w (ClassDump id stack parent loader signers domain spare_a spare_b size constants statics fields) =
    concat (field 1 0x20 ∷ field w id ∷ word stack ∷ field w parent ∷ field w loader ∷ field w signers ∷ field w domain
    ∷ field w spare_a ∷ field w spare_b ∷ word size
    ∷ field 2 (length constants) ∷ flat_map constant_bytes constants
    ∷ field 2 (length statics) ∷ flat_map (wide_static_bytes w) statics
    ∷ field 2 (length fields) ∷ flat_map (wide_field_name_bytes w) fields ∷ [])
wide_part_bytes w (Instance id stack class bytes) =
    concat (field 1 0x21 ∷ field w id ∷ word stack ∷ field w class ∷ word (length bytes) ∷ bytes ∷ [])
wide_part_bytes w (ObjectArray id stack class items) =
    concat (field 1 0x22 ∷ field w id ∷ word stack ∷ word (length items) ∷ field w class ∷ flat_map (field w) items ∷ [])
wide_part_bytes w (PrimitiveArray id stack code count bytes) =
    concat (field 1 0x23 ∷ field w id ∷ word stack ∷ word count ∷ field 1 code ∷ bytes ∷ [])
wide_part_bytes w (NoData id stack count code) =
    concat (field 1 0xc3 ∷ field w id ∷ word stack ∷ word count ∷ field 1 code ∷ [])

-- the parts of a segment, one after another
abbrev pub wide_parts_bytes : ℕ → List WideSub → List ℕ
wide_parts_bytes w parts = flat_map (wide_part_bytes w) parts
