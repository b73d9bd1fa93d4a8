-- The bytes of records and of a whole dump: their fields in order.
use Rattle.std.specs.Prelude.{ℕ, List, [], ◌∷◌, ◌++◌, length, codes}
use Rattle.std.specs.List.{concat, flat_map}
use Rattle.hprof_records.specs.declared.top_record.TopRecord.{TopRecord}
use Rattle.hprof_records.specs.declared.top_record.TopRecord.TheVariants.{Text, LoadClass, Trace, Segment, Other}
use Rattle.hprof_records.specs.Fields.{field}
use Rattle.hprof_records.specs.Parts.{word, bytes_of_parts}

-- what kind of record it is
abbrev pub tag_of : TopRecord → ℕ
tag_of (Text time id bytes) = 0x01
tag_of (LoadClass time serial class stack name rest) = 0x02
tag_of (Trace time serial thread frames rest) = 0x05
tag_of (Segment time tag size parts) = tag
tag_of (Other time tag body) = tag

-- the microseconds since the header's time
abbrev pub time_of : TopRecord → ℕ
time_of (Text time id bytes) = time
time_of (LoadClass time serial class stack name rest) = time
time_of (Trace time serial thread frames rest) = time
time_of (Segment time tag size parts) = time
time_of (Other time tag body) = time

-- what stands behind the tag, the time and the length
abbrev pub body_of : TopRecord → List ℕ
body_of (Text time id bytes) = concat (word id ∷ bytes ∷ [])
body_of (LoadClass time serial class stack name rest) =
    concat (word serial ∷ word class ∷ word stack ∷ word name ∷ rest ∷ [])
body_of (Trace time serial thread frames rest) =
    concat (word serial ∷ word thread ∷ word (length frames) ∷ flat_map word frames ∷ rest ∷ [])
body_of (Segment time tag size parts) = bytes_of_parts parts
body_of (Other time tag body) = body

-- a record: its tag, its time, the length of its body, its body
abbrev pub bytes_of_record : TopRecord → List ℕ
bytes_of_record r = concat (field 1 (tag_of r) ∷ word (time_of r) ∷ word (length (body_of r)) ∷ body_of r ∷ [])

-- records, one after another
abbrev pub bytes_of_records : List TopRecord → List ℕ
bytes_of_records records = flat_map bytes_of_record records

-- the header: its text and a zero, the bytes of an identifier, the time in milliseconds
abbrev pub header_bytes : ℕ → List ℕ
header_bytes time = concat (codes "JAVA PROFILE 1.0.3" ∷ field 1 0 ∷ word 4 ∷ field 8 time ∷ [])

-- a dump: the header, and the records up to the end
abbrev pub dump_bytes : ℕ → List TopRecord → List ℕ
dump_bytes time records = header_bytes time ++ bytes_of_records records
