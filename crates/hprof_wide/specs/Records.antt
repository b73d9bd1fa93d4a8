-- The bytes of wide records and of a whole wide dump: their fields in order. An identifier has w bytes.
use Rattle.std.specs.Prelude.{ℕ, List, [], ◌∷◌, ◌++◌, length}
use Rattle.std.specs.List.{concat, flat_map}
use Rattle.hprof_wide.specs.declared.wide_top.WideTop.{WideTop}
use Rattle.hprof_wide.specs.declared.wide_top.WideTop.TheVariants.{Text, LoadClass, Trace, Segment, Other}
use Rattle.hprof_records.specs.Fields.{field}
use Rattle.hprof_records.specs.Parts.{word}
use Rattle.hprof_wide.specs.Parts.{wide_parts_bytes}

-- what kind of record it is
abbrev pub wide_tag_of : WideTop → ℕ
wide_tag_of (Text time id bytes) = 0x01
wide_tag_of (LoadClass time serial class stack name rest) = 0x02
wide_tag_of (Trace time serial thread frames rest) = 0x05
wide_tag_of (Segment time tag size parts) = tag
wide_tag_of (Other time tag body) = tag

-- the microseconds since the header's time
abbrev pub wide_time_of : WideTop → ℕ
wide_time_of (Text time id bytes) = time
wide_time_of (LoadClass time serial class stack name rest) = time
wide_time_of (Trace time serial thread frames rest) = time
wide_time_of (Segment time tag size parts) = time
wide_time_of (Other time tag body) = time

-- what stands behind the tag, the time and the length
abbrev pub wide_body_of : ℕ → WideTop → List ℕ
wide_body_of w (Text time id bytes) = concat (field w id ∷ bytes ∷ [])
wide_body_of w (LoadClass time serial class stack name rest) =
    concat (word serial ∷ field w class ∷ word stack ∷ field w name ∷ rest ∷ [])
wide_body_of w (Trace time serial thread frames rest) =
    concat (word serial ∷ word thread ∷ word (length frames) ∷ flat_map (field w) frames ∷ rest ∷ [])
wide_body_of w (Segment time tag size parts) = wide_parts_bytes w parts
wide_body_of w (Other time tag body) = body

-- a record: its tag, its time, the length of its body, its body
abbrev pub wide_record_bytes : ℕ → WideTop → List ℕ
wide_record_bytes w r =
    concat (field 1 (wide_tag_of r) ∷ word (wide_time_of r) ∷ word (length (wide_body_of w r)) ∷ wide_body_of w r ∷ [])

-- records, one after another
abbrev pub wide_records_bytes : ℕ → List WideTop → List ℕ
wide_records_bytes w records = flat_map (wide_record_bytes w) records

-- the header: its text and a zero, the bytes of an identifier, the time in milliseconds
abbrev pub wide_header_bytes : List ℕ → ℕ → ℕ → List ℕ
wide_header_bytes text w time = concat (text ∷ field 1 0 ∷ word w ∷ field 8 time ∷ [])

-- a dump: the header, and the records up to the end
abbrev pub wide_dump_bytes : List ℕ → ℕ → ℕ → List WideTop → List ℕ
wide_dump_bytes text w time records = wide_header_bytes text w time ++ wide_records_bytes w records
