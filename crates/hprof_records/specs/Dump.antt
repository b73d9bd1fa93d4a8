-- Records as they may stand in a dump, and what a dump is.
use Rattle.std.specs.Prelude.{◌≡◌, ℕ, ◌^◌, ◌<◌, false, IsTrue, List, [], ◌∷◌, length}
use Rattle.std.specs.List.{All}
use Rattle.hprof_records.specs.declared.top_record.TopRecord.{TopRecord}
use Rattle.hprof_records.specs.declared.top_record.TopRecord.TheVariants.{Text, LoadClass, Trace, Segment, Other}
use Rattle.hprof_records.specs.Formed.{is_one_of, IsByte, IsWord, IsPart}
use Rattle.hprof_records.specs.Parts.{bytes_of_parts}
use Rattle.hprof_records.specs.Records.{time_of, body_of, dump_bytes}

-- the tags of segments
abbrev pub segment_tags : List ℕ
segment_tags = 0x0c ∷ 0x1c ∷ []

-- the tags of records whose bodies are read
abbrev pub read_tags : List ℕ
read_tags = 0x01 ∷ 0x02 ∷ 0x05 ∷ 0x0c ∷ 0x1c ∷ []

-- a record whose own fields are as they may be
abbrev pub HasFields : TopRecord → Type 0
HasFields (Text time id bytes) = IsWord id × All IsByte bytes
HasFields (LoadClass time serial class stack name rest) =
    IsWord serial × IsWord class × IsWord stack × IsWord name × All IsByte rest
HasFields (Trace time serial thread frames rest) =
    IsWord serial × IsWord thread × IsWord (length frames) × All IsWord frames × All IsByte rest
HasFields (Segment time tag size parts) =
    IsTrue (is_one_of segment_tags tag) × (size ≡ length (bytes_of_parts parts)) × All IsPart parts
HasFields (Other time tag body) = IsByte tag × (is_one_of read_tags tag ≡ false) × All IsByte body

-- a record as it may stand in a dump: its time fits, and its body is shorter than 4,294,967,296 bytes
abbrev pub IsRecord : TopRecord → Type 0
IsRecord r = IsWord (time_of r) × HasFields r × IsWord (length (body_of r))

-- a well-formed list of records
abbrev pub AreRecords : List TopRecord → Type 0
AreRecords records = All IsRecord records

-- bytes that are those of a time and a well-formed list of records
abbrev pub IsDump : List ℕ → Type 0
IsDump bytes =
    (time : ℕ) × (records : List TopRecord) × ((time < 2 ^ 64) × AreRecords records × (bytes ≡ dump_bytes time records))
