-- The listing of a dump, line by line.
use Rattle.std.specs.Prelude.{ℕ, ◌/◌, ◌%◌, Bool, true, false, nat_eq, nat_le, List, [], ◌∷◌, ◌++◌, length, Option, None, Some, codes, decimal, slice_index, count_by, sum_by, if◌then◌else◌}
use Rattle.std.specs.List.{concat, flat_map}
use Rattle.hprof_records.specs.declared.sub_record.SubRecord.{SubRecord}
use Rattle.hprof_records.specs.declared.sub_record.SubRecord.TheVariants.{Root, HeapInfo, ClassDump, Instance, ObjectArray, PrimitiveArray, NoData}
use Rattle.hprof_records.specs.declared.top_record.TopRecord.{TopRecord}
use Rattle.hprof_records.specs.declared.top_record.TopRecord.TheVariants.{Text, LoadClass, Trace, Segment, Other}
use Rattle.hprof_records.specs.Parts.{word}
use Rattle.hprof_list.specs.declared.counts.Sort.{Sort}
use Rattle.hprof_list.specs.declared.counts.Sort.TheVariants as sorts

-- a digit of base 16, in lower case
abbrev pub hex_digit : ℕ → ℕ
hex_digit n = slice_index (codes "0123456789abcdef") n

abbrev pub hex_byte : ℕ → List ℕ
hex_byte b = hex_digit (b / 16) ∷ hex_digit (b % 16) ∷ []

abbrev pub hex : List ℕ → List ℕ
hex bytes = flat_map hex_byte bytes

-- an identifier as eight digits, a tag as two
abbrev pub id_text : ℕ → List ℕ
id_text id = codes "0x" ++ hex (word id)

abbrev pub tag_text : ℕ → List ℕ
tag_text tag = codes "0x" ++ hex_byte tag

-- the bytes of a value, or a sign where there are none
abbrev pub value_text : List ℕ → List ℕ
value_text [] = codes "-"
value_text (b ∷ bytes) = hex (b ∷ bytes)

-- the bytes that a text shows as they are: those of ASCII that print, but for the backslash
abbrev pub is_plain : ℕ → Bool
is_plain b = if nat_eq b 0x5c then false else if nat_le 0x20 b then nat_le b 0x7e else false

-- a byte of a text: as it is, or a backslash, an x and two digits
abbrev pub shown_byte : ℕ → List ℕ
shown_byte b = if is_plain b then b ∷ [] else 0x5c ∷ 0x78 ∷ hex_byte b

-- identifiers, a space before each
abbrev pub spaced_id : ℕ → List ℕ
spaced_id id = codes " " ++ id_text id

-- a further field of a root, a space before it
abbrev pub further_text : Option ℕ → List ℕ
further_text None = []
further_text (Some number) = codes " " ++ decimal number

abbrev pub constant_line : ℕ × ℕ × List ℕ → List ℕ
constant_line c = concat (codes "constant " ∷ decimal c.0 ∷ codes " type " ∷ decimal c.1 ∷ codes " " ∷ value_text c.2 ∷ codes "\n" ∷ [])

abbrev pub static_line : ℕ × ℕ × List ℕ → List ℕ
static_line s = concat (codes "static " ∷ decimal s.0 ∷ codes " type " ∷ decimal s.1 ∷ codes " " ∷ value_text s.2 ∷ codes "\n" ∷ [])

abbrev pub field_line : ℕ × ℕ → List ℕ
field_line f = concat (codes "field " ∷ decimal f.0 ∷ codes " type " ∷ decimal f.1 ∷ codes "\n" ∷ [])

abbrev pub class_line : ℕ → ℕ → ℕ → ℕ → ℕ → ℕ → ℕ → ℕ → ℕ → ℕ → List ℕ
class_line id stack parent loader signers domain size constants statics fields =
    concat (codes "class " ∷ id_text id ∷ codes " stack " ∷ decimal stack ∷ codes " super " ∷ id_text parent
    ∷ codes " loader " ∷ id_text loader ∷ codes " signers " ∷ id_text signers ∷ codes " domain " ∷ id_text domain
    ∷ codes " size " ∷ decimal size ∷ codes " constants " ∷ decimal constants
    ∷ codes " statics " ∷ decimal statics ∷ codes " fields " ∷ decimal fields ∷ codes "\n" ∷ [])

-- a part's own line, and those of a class's lists
abbrev pub part_lines : SubRecord → List ℕ
part_lines (Root tag id first second) =
    concat (codes "root " ∷ tag_text tag ∷ codes " " ∷ id_text id ∷ further_text first ∷ further_text second ∷ codes "\n" ∷ [])
part_lines (HeapInfo heap name) = concat (codes "heap " ∷ decimal heap ∷ codes " name " ∷ decimal name ∷ codes "\n" ∷ [])
part_lines (ClassDump id stack parent loader signers domain spare_a spare_b size constants statics fields) =
    class_line id stack parent loader signers domain size (length constants) (length statics) (length fields)
    ++ (flat_map constant_line constants ++ (flat_map static_line statics ++ flat_map field_line fields))
part_lines (Instance id stack class bytes) =
    concat (codes "instance " ∷ id_text id ∷ codes " stack " ∷ decimal stack ∷ codes " class " ∷ id_text class
    ∷ codes " " ∷ value_text bytes ∷ codes "\n" ∷ [])
part_lines (ObjectArray id stack class items) =
    concat (codes "array " ∷ id_text id ∷ codes " stack " ∷ decimal stack ∷ codes " class " ∷ id_text class
    ∷ codes " count " ∷ decimal (length items) ∷ flat_map spaced_id items ∷ codes "\n" ∷ [])
part_lines (PrimitiveArray id stack code count bytes) =
    concat (codes "primitive " ∷ id_text id ∷ codes " stack " ∷ decimal stack ∷ codes " type " ∷ decimal code
    ∷ codes " count " ∷ decimal count ∷ codes " " ∷ value_text bytes ∷ codes "\n" ∷ [])
part_lines (NoData id stack count code) =
    concat (codes "nodata " ∷ id_text id ∷ codes " stack " ∷ decimal stack ∷ codes " count " ∷ decimal count
    ∷ codes " type " ∷ decimal code ∷ codes "\n" ∷ [])

-- a record's line, and those of a segment's parts
abbrev pub record_lines : TopRecord → List ℕ
record_lines (Text time id bytes) = concat (codes "string " ∷ decimal id ∷ codes " " ∷ flat_map shown_byte bytes ∷ codes "\n" ∷ [])
record_lines (LoadClass time serial class stack name rest) =
    concat (codes "load " ∷ decimal serial ∷ codes " class " ∷ id_text class ∷ codes " stack " ∷ decimal stack
    ∷ codes " name " ∷ decimal name ∷ codes "\n" ∷ [])
record_lines (Trace time serial thread frames rest) =
    concat (codes "trace " ∷ decimal serial ∷ codes " thread " ∷ decimal thread ∷ codes " frames " ∷ decimal (length frames)
    ∷ flat_map spaced_id frames ∷ codes "\n" ∷ [])
record_lines (Segment time tag size parts) =
    concat (codes "segment " ∷ tag_text tag ∷ codes " length " ∷ decimal size ∷ codes "\n" ∷ []) ++ flat_map part_lines parts
record_lines (Other time tag body) =
    concat (codes "other " ∷ tag_text tag ∷ codes " length " ∷ decimal (length body) ∷ codes "\n" ∷ [])

-- what the last line counts: classes, objects, and roots with the unreachable objects
abbrev pub is_of : Sort → SubRecord → Bool
is_of sorts.Classes (ClassDump id stack parent loader signers domain spare_a spare_b size constants statics fields) = true
is_of sorts.Objects (Instance id stack class bytes) = true
is_of sorts.Objects (ObjectArray id stack class items) = true
is_of sorts.Objects (PrimitiveArray id stack code count bytes) = true
is_of sorts.Objects (NoData id stack count code) = true
is_of sorts.Roots (Root tag id first second) = true
is_of _ _ = false

abbrev pub parts_of : TopRecord → List SubRecord
parts_of (Segment time tag size parts) = parts
parts_of _ = []

abbrev pub count_of : Sort → List TopRecord → ℕ
count_of sort records = sum_by (λ r. count_by (is_of sort) (parts_of r)) records

abbrev pub header_line : ℕ → List ℕ
header_line time = concat (codes "JAVA PROFILE 1.0.3 id 4 time " ∷ decimal time ∷ codes "\n" ∷ [])

abbrev pub last_line : List TopRecord → List ℕ
last_line records =
    concat (codes "records " ∷ decimal (length records) ∷ codes " classes " ∷ decimal (count_of sorts.Classes records)
    ∷ codes " objects " ∷ decimal (count_of sorts.Objects records) ∷ codes " roots " ∷ decimal (count_of sorts.Roots records)
    ∷ codes "\n" ∷ [])

-- the listing of a dump with this time and these records
abbrev pub listing : ℕ → List TopRecord → List ℕ
listing time records = header_line time ++ (flat_map record_lines records ++ last_line records)
