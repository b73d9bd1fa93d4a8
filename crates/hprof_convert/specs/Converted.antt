-- A wide dump, converted: each identifier renamed and of 4 bytes, the records kept that mean something.
use Rattle.std.specs.Prelude.{ℕ, nat_eq, List, map, length, Option, None, Some, option_map, if◌then◌else◌}
use Rattle.std.specs.List.{filter_map}
use Rattle.hprof_records.specs.declared.sub_record.SubRecord.{SubRecord}
use Rattle.hprof_records.specs.declared.sub_record.SubRecord.TheVariants as part
use Rattle.hprof_records.specs.declared.top_record.TopRecord.{TopRecord}
use Rattle.hprof_records.specs.declared.top_record.TopRecord.TheVariants as record_of
use Rattle.hprof_records.specs.Parts.{bytes_of_parts}
use Rattle.hprof_wide.specs.declared.wide_sub.WideSub.{WideSub}
use Rattle.hprof_wide.specs.declared.wide_sub.WideSub.TheVariants.{Root, HeapInfo, ClassDump, Instance, ObjectArray, PrimitiveArray, NoData}
use Rattle.hprof_wide.specs.declared.wide_top.WideTop.{WideTop}
use Rattle.hprof_wide.specs.declared.wide_top.WideTop.TheVariants.{Text, LoadClass, Trace, Segment, Other}
use Rattle.dump_graph.specs.Classes.{Class}
use Rattle.hprof_convert.specs.Names.{named, rename}
use Rattle.hprof_convert.specs.Values.{renamed_value, renamed_values}
use Rattle.hprof_convert.specs.Layouts.{instance_layout, wide_classes}
use Rattle.hprof_convert.specs.Identifiers.{ids_of, jni_global}

-- a root's further field, renamed where it is an identifier
abbrev pub renamed_further : List ℕ → ℕ → Option ℕ → Option ℕ
renamed_further names tag first = if nat_eq tag jni_global then option_map (rename names) first else first

-- a constant, a static field and a field of a class, renamed
abbrev pub renamed_constant : ℕ → List ℕ → ℕ × ℕ × List ℕ → ℕ × ℕ × List ℕ
renamed_constant w names c = (c.0, c.1, renamed_value w names (c.1, c.2))

abbrev pub renamed_static : ℕ → List ℕ → ℕ × ℕ × List ℕ → ℕ × ℕ × List ℕ
renamed_static w names s = (rename names s.0, s.1, renamed_value w names (s.1, s.2))

abbrev pub renamed_field : List ℕ → ℕ × ℕ → ℕ × ℕ
renamed_field names f = (rename names f.0, f.1)

-- a class, renamed
abbrev pub renamed_class : List ℕ → Class → Class
renamed_class names c = record { id = rename names c.id; parent = rename names c.parent; codes = c.codes }

-- the bytes of an instance with this layout, renamed value by value; as they are where it has no layout
abbrev pub renamed_bytes : ℕ → List ℕ → Option (List ℕ) → List ℕ → List ℕ
renamed_bytes w names None bytes = bytes
renamed_bytes w names (Some codes) bytes = renamed_values w names codes bytes

-- a part, renamed
abbrev pub converted_part : ℕ → List Class → List ℕ → WideSub → SubRecord
converted_part w known names (Root tag id first second) =
    part.Root tag (rename names id) (renamed_further names tag first) second
converted_part w known names (HeapInfo heap name) = part.HeapInfo heap (rename names name)
converted_part w known names (ClassDump id stack parent loader signers domain spare_a spare_b size constants statics fields) =
    part.ClassDump (rename names id) stack (rename names parent) (rename names loader) (rename names signers)
    (rename names domain) (rename names spare_a) (rename names spare_b) size
    (map (renamed_constant w names) constants) (map (renamed_static w names) statics) (map (renamed_field names) fields)
converted_part w known names (Instance id stack class bytes) =
    part.Instance (rename names id) stack (rename names class)
    (renamed_bytes w names (instance_layout w known class (length bytes)) bytes)
converted_part w known names (ObjectArray id stack class items) =
    part.ObjectArray (rename names id) stack (rename names class) (map (rename names) items)
converted_part w known names (PrimitiveArray id stack code count bytes) =
    part.PrimitiveArray (rename names id) stack code count bytes
converted_part w known names (NoData id stack count code) = part.NoData (rename names id) stack count code

-- the tag of the end of a heap dump, which is kept
abbrev pub heap_dump_end : ℕ
heap_dump_end = 0x2c

-- a segment of these parts, with their length
abbrev pub segment_of : ℕ → ℕ → List SubRecord → TopRecord
segment_of time tag parts = record_of.Segment time tag (length (bytes_of_parts parts)) parts

-- a record, renamed; none for one that is passed over, unless it is the end of a heap dump
abbrev pub converted_record : ℕ → List Class → List ℕ → WideTop → Option TopRecord
converted_record w known names (Text time id bytes) = Some (record_of.Text time (rename names id) bytes)
converted_record w known names (LoadClass time serial class stack name rest) =
    Some (record_of.LoadClass time serial (rename names class) stack (rename names name) rest)
converted_record w known names (Trace time serial thread frames rest) =
    Some (record_of.Trace time serial thread (map (rename names) frames) rest)
converted_record w known names (Segment time tag size parts) =
    Some (segment_of time tag (map (converted_part w known names) parts))
converted_record w known names (Other time tag body) =
    if nat_eq tag heap_dump_end then Some (record_of.Other time tag body) else None

-- the names of a dump's records: their identifiers, in the order in which they first appear
abbrev pub names_of : ℕ → List WideTop → List ℕ
names_of w records = named (ids_of w records)

-- the converted records
abbrev pub converted : ℕ → List WideTop → List TopRecord
converted w records = filter_map (converted_record w (wide_classes records) (names_of w records)) records
