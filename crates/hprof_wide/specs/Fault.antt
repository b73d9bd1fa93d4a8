-- The first fault of a text that is no wide dump: the first place where no wide dump goes on so.
use Rattle.std.specs.Prelude.{◌≡◌, ◌≢◌, ◌⊎◌, ℕ, ◌+◌, ◌<◌, IsTrue, List, [], ◌∷◌, ◌++◌, length}
use Rattle.std.specs.List.{All}
use Rattle.hprof_wide.specs.declared.wide_sub.WideSub.{WideSub}
use Rattle.hprof_wide.specs.declared.wide_top.WideTop.{WideTop}
use Rattle.hprof_records.specs.Fields.{field}
use Rattle.hprof_records.specs.Parts.{word}
use Rattle.hprof_records.specs.Formed.{is_one_of}
use Rattle.hprof_records.specs.Dump.{segment_tags}
use Rattle.hprof_read.specs.Fault.{framed, IsFramed, IsCut, field_tags}
use Rattle.hprof_wide.specs.Parts.{wide_part_bytes, wide_parts_bytes}
use Rattle.hprof_wide.specs.Records.{wide_tag_of, wide_body_of, wide_record_bytes, wide_records_bytes, wide_header_bytes}
use Rattle.hprof_wide.specs.Formed.{IsIdWidth, IsWidePart}
use Rattle.hprof_wide.specs.Dump.{IsFormatText, IsHeader, HasWideFields, IsWideRecord, AreWideRecords}
use Rattle.hprof_wide.specs.declared.wide_error.WideError.{WideError}
use Rattle.hprof_wide.specs.declared.wide_error.WideError.TheVariants.{Magic, IdSize, CutShort, UnknownTag, PastEnd, BadType, OutOfMemory}

-- no well-formed record stands at the front
abbrev pub NoWideRecord : ℕ → List ℕ → Type 0
NoWideRecord w rest = (r : WideTop) (more : List ℕ) → IsWideRecord w r → rest ≡ wide_record_bytes w r ++ more → ⊥

-- no well-formed part of a segment stands at the front
abbrev pub NoWidePart : ℕ → List ℕ → Type 0
NoWidePart w rest = (p : WideSub) (more : List ℕ) → IsWidePart w p → rest ≡ wide_part_bytes w p ++ more → ⊥

-- some well-formed part's bytes begin with these, and go on
abbrev pub BeginsWidePart : ℕ → List ℕ → Type 0
BeginsWidePart w front =
    (p : WideSub) × (next : ℕ) × (more : List ℕ) × (IsWidePart w p × (wide_part_bytes w p ≡ front ++ next ∷ more))

-- no well-formed part's bytes begin with these
abbrev pub BeginsNoWidePart : ℕ → List ℕ → Type 0
BeginsNoWidePart w front = (p : WideSub) (more : List ℕ) → IsWidePart w p → wide_part_bytes w p ≡ front ++ more → ⊥

-- What is wrong with a segment's body from the place q on. Up to its first byte that can't stand there, each text of a
-- part's is allowed: only tags and types can be wrong, and a tag stands first.
abbrev pub WidePartFault : ℕ → WideError → List ℕ → ℕ → Type 0
WidePartFault w (UnknownTag offset) rest q =
    (offset ≡ q) × ((tag : ℕ) × (after : List ℕ) × ((rest ≡ tag ∷ after) × BeginsNoWidePart w (tag ∷ [])))
WidePartFault w (PastEnd offset) rest q = (offset ≡ q) × BeginsWidePart w rest
WidePartFault w (BadType offset) rest q =
    (front : List ℕ) × (code : ℕ) × (after : List ℕ)
    × ((offset ≡ q + length front) × (front ≢ []) × (rest ≡ front ++ code ∷ after)
    × BeginsWidePart w front × BeginsNoWidePart w (front ++ code ∷ []))
WidePartFault w (Magic offset) rest q = ⊥
WidePartFault w (IdSize offset) rest q = ⊥
WidePartFault w (CutShort offset) rest q = ⊥
WidePartFault w OutOfMemory rest q = ⊥

-- what is wrong with a segment's body, which stands at a place: well-formed parts, and then this
abbrev pub WideBodyFault : ℕ → WideError → List ℕ → ℕ → Type 0
WideBodyFault w e body at =
    (parts : List WideSub) × (rest : List ℕ)
    × (All (IsWidePart w) parts × (body ≡ wide_parts_bytes w parts ++ rest) × (rest ≢ []) × NoWidePart w rest
    × WidePartFault w e rest (at + length (wide_parts_bytes w parts)))

-- no fields of a record with this tag give this body
abbrev pub LacksWideFields : ℕ → ℕ → List ℕ → Type 0
LacksWideFields w tag body = (r : WideTop) → HasWideFields w r → wide_tag_of r ≡ tag → wide_body_of w r ≡ body → ⊥

-- what is wrong with the body of a record at the place o, which stands behind its 9 bytes
abbrev pub WideContentFault : ℕ → WideError → ℕ → List ℕ → ℕ → Type 0
WideContentFault w e tag body o =
    ((e ≡ PastEnd o) × (IsTrue (is_one_of field_tags tag) × LacksWideFields w tag body))
    ⊎ (IsTrue (is_one_of segment_tags tag) × WideBodyFault w e body (o + 9))

-- what is wrong with the record at the place o: it isn't whole, or it is whole and this is wrong with its body
abbrev pub WideRecordFault : ℕ → WideError → List ℕ → ℕ → Type 0
WideRecordFault w e rest o =
    ((e ≡ CutShort o) × IsCut rest)
    ⊎ ((tag : ℕ) × (time : ℕ) × (body : List ℕ) × (after : List ℕ)
    × (IsFramed tag time body × (rest ≡ framed tag time body ++ after) × WideContentFault w e tag body o))

-- what is wrong with the records, which stand at a place: well-formed records, behind which something but no well-formed
-- record follows, and this is wrong with it
abbrev pub WideRecordsFault : ℕ → WideError → List ℕ → ℕ → Type 0
WideRecordsFault w e text at =
    (records : List WideTop) × (rest : List ℕ)
    × (AreWideRecords w records × (text ≡ wide_records_bytes w records ++ rest) × (rest ≢ []) × NoWideRecord w rest
    × WideRecordFault w e rest (at + length (wide_records_bytes w records)))

-- the text begins with one of the two formats' texts and its zero, and this follows
abbrev pub BeginsFormat : List ℕ → List ℕ → Type 0
BeginsFormat text rest = (format : List ℕ) × (IsFormatText format × (text ≡ format ++ (field 1 0 ++ rest)))

-- what is wrong with the header
abbrev pub WideHeaderFault : WideError → List ℕ → Type 0
WideHeaderFault (Magic offset) text = (offset ≡ 0) × ((rest : List ℕ) → BeginsFormat text rest → ⊥)
WideHeaderFault (IdSize offset) text =
    (offset ≡ 19) × ((size : List ℕ) × (rest : List ℕ)
    × (BeginsFormat text (size ++ rest) × (length size ≡ 4) × (size ≢ word 4) × (size ≢ word 8)))
WideHeaderFault (CutShort offset) text =
    ((offset ≡ 19) × ((rest : List ℕ) × (BeginsFormat text rest × (length rest < 4))))
    ⊎ ((offset ≡ 23) × ((w : ℕ) × (rest : List ℕ) × (IsIdWidth w × BeginsFormat text (word w ++ rest) × (length rest < 8))))
WideHeaderFault (UnknownTag offset) text = ⊥
WideHeaderFault (PastEnd offset) text = ⊥
WideHeaderFault (BadType offset) text = ⊥
WideHeaderFault OutOfMemory text = ⊥

-- the first fault of a text: of its header, or of the records that stand behind its header's 31 bytes
abbrev pub IsFirstWideFault : WideError → List ℕ → Type 0
IsFirstWideFault e text =
    WideHeaderFault e text
    ⊎ ((format : List ℕ) × (w : ℕ) × (time : ℕ) × (body : List ℕ)
    × (IsHeader format w time × (text ≡ wide_header_bytes format w time ++ body) × WideRecordsFault w e body 31))
