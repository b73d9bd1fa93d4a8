-- Records as they may stand in a wide dump, and what a wide dump is.
use Rattle.std.specs.Prelude.{◌≡◌, ◌⊎◌, ℕ, ◌^◌, ◌<◌, false, IsTrue, List, length, codes}
use Rattle.std.specs.List.{All}
use Rattle.hprof_wide.specs.declared.wide_top.WideTop.{WideTop}
use Rattle.hprof_wide.specs.declared.wide_top.WideTop.TheVariants.{Text, LoadClass, Trace, Segment, Other}
use Rattle.hprof_records.specs.Formed.{is_one_of, IsByte, IsWord}
use Rattle.hprof_records.specs.Dump.{segment_tags, read_tags}
use Rattle.hprof_wide.specs.Formed.{IsIdWidth, IsId, IsWidePart}
use Rattle.hprof_wide.specs.Parts.{wide_parts_bytes}
use Rattle.hprof_wide.specs.Records.{wide_time_of, wide_body_of, wide_dump_bytes}

-- the texts of the two formats
abbrev pub text_2 : List ℕ
text_2 = codes "JAVA PROFILE 1.0.2"

abbrev pub text_3 : List ℕ
text_3 = codes "JAVA PROFILE 1.0.3"

abbrev pub IsFormatText : List ℕ → Type 0
IsFormatText text = (text ≡ text_2) ⊎ (text ≡ text_3)

-- a record whose own fields are as they may be
abbrev pub HasWideFields : ℕ → WideTop → Type 0
HasWideFields w (Text time id bytes) = IsId w id × All IsByte bytes
HasWideFields w (LoadClass time serial class stack name rest) =
    IsWord serial × IsId w class × IsWord stack × IsId w name × All IsByte rest
HasWideFields w (Trace time serial thread frames rest) =
    IsWord serial × IsWord thread × IsWord (length frames) × All (IsId w) frames × All IsByte rest
HasWideFields w (Segment time tag size parts) =
    IsTrue (is_one_of segment_tags tag) × (size ≡ length (wide_parts_bytes w parts)) × All (IsWidePart w) parts
HasWideFields w (Other time tag body) = IsByte tag × (is_one_of read_tags tag ≡ false) × All IsByte body

-- a record as it may stand in a dump: its time fits, and its body is shorter than 4,294,967,296 bytes
abbrev pub IsWideRecord : ℕ → WideTop → Type 0
IsWideRecord w r = IsWord (wide_time_of r) × HasWideFields w r × IsWord (length (wide_body_of w r))

-- a well-formed list of records
abbrev pub AreWideRecords : ℕ → List WideTop → Type 0
AreWideRecords w records = All (IsWideRecord w) records

-- a header's text, the bytes of an identifier and a time, as they may stand
abbrev pub IsHeader : List ℕ → ℕ → ℕ → Type 0
IsHeader text w time = IsFormatText text × IsIdWidth w × (time < 2 ^ 64)

-- bytes that are those of a header with one of the two texts, and of a well-formed list of records
abbrev pub IsWideDumpOf : ℕ → ℕ → List WideTop → List ℕ → Type 0
IsWideDumpOf w time records bytes =
    (text : List ℕ) × (IsHeader text w time × AreWideRecords w records × (bytes ≡ wide_dump_bytes text w time records))

-- bytes that are a wide dump
abbrev pub IsWideDump : List ℕ → Type 0
IsWideDump bytes = (w : ℕ) × (time : ℕ) × (records : List WideTop) × IsWideDumpOf w time records bytes
