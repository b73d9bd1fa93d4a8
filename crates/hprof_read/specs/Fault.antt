-- The first fault of a text that is no dump: the first place where no dump goes on so.
use Rattle.std.specs.Prelude.{◌≡◌, ◌≢◌, ◌⊎◌, ℕ, ◌+◌, ◌<◌, ◌^◌, IsTrue, List, [], ◌∷◌, ◌++◌, length, codes}
use Rattle.std.specs.List.{All, concat}
use Rattle.hprof_records.specs.declared.sub_record.SubRecord.{SubRecord}
use Rattle.hprof_records.specs.declared.top_record.TopRecord.{TopRecord}
use Rattle.hprof_records.specs.Fields.{field}
use Rattle.hprof_records.specs.Parts.{word, bytes_of_part, bytes_of_parts}
use Rattle.hprof_records.specs.Records.{tag_of, body_of, bytes_of_record, bytes_of_records, header_bytes}
use Rattle.hprof_records.specs.Formed.{IsByte, IsWord, IsPart, is_one_of}
use Rattle.hprof_records.specs.Dump.{segment_tags, HasFields, IsRecord, AreRecords}
use Rattle.hprof_read.specs.declared.read_error.ReadError.{ReadError}
use Rattle.hprof_read.specs.declared.read_error.ReadError.TheVariants.{Magic, IdSize, CutShort, UnknownTag, PastEnd, BadType, OutOfMemory}

-- the text that dumps begin with, and its zero
abbrev pub magic : List ℕ
magic = codes "JAVA PROFILE 1.0.3" ++ field 1 0

-- a tag, a time, the length of a body, the body
abbrev pub framed : ℕ → ℕ → List ℕ → List ℕ
framed tag time body = concat (field 1 tag ∷ word time ∷ word (length body) ∷ body ∷ [])

-- the fields of such a record fit, whatever its body means
abbrev pub IsFramed : ℕ → ℕ → List ℕ → Type 0
IsFramed tag time body = IsByte tag × IsWord time × IsWord (length body) × All IsByte body

-- a record's 9 bytes or its body isn't whole: more would have to follow
abbrev pub IsCut : List ℕ → Type 0
IsCut rest =
    (tag : ℕ) × (time : ℕ) × (body : List ℕ) × (next : ℕ) × (more : List ℕ)
    × (IsFramed tag time body × (framed tag time body ≡ rest ++ next ∷ more))

-- no well-formed record stands at the front
abbrev pub NoRecord : List ℕ → Type 0
NoRecord rest = (r : TopRecord) (more : List ℕ) → IsRecord r → rest ≡ bytes_of_record r ++ more → ⊥

-- no well-formed part of a segment stands at the front
abbrev pub NoPart : List ℕ → Type 0
NoPart rest = (p : SubRecord) (more : List ℕ) → IsPart p → rest ≡ bytes_of_part p ++ more → ⊥

-- some well-formed part's bytes begin with these, and go on
abbrev pub BeginsPart : List ℕ → Type 0
BeginsPart front = (p : SubRecord) × (next : ℕ) × (more : List ℕ) × (IsPart p × (bytes_of_part p ≡ front ++ next ∷ more))

-- no well-formed part's bytes begin with these
abbrev pub BeginsNoPart : List ℕ → Type 0
BeginsNoPart front = (p : SubRecord) (more : List ℕ) → IsPart p → bytes_of_part p ≡ front ++ more → ⊥

-- What is wrong with a segment's body from the place q on. Up to its first byte that can't stand there, each text of a
-- part's is allowed: only tags and types can be wrong, and a tag stands first.
abbrev pub PartFault : ReadError → List ℕ → ℕ → Type 0
PartFault (UnknownTag offset) rest q =
    (offset ≡ q) × ((tag : ℕ) × (after : List ℕ) × ((rest ≡ tag ∷ after) × BeginsNoPart (tag ∷ [])))
PartFault (PastEnd offset) rest q = (offset ≡ q) × BeginsPart rest
PartFault (BadType offset) rest q =
    (front : List ℕ) × (code : ℕ) × (after : List ℕ)
    × ((offset ≡ q + length front) × (front ≢ []) × (rest ≡ front ++ code ∷ after)
    × BeginsPart front × BeginsNoPart (front ++ code ∷ []))
PartFault (Magic offset) rest q = ⊥
PartFault (IdSize offset) rest q = ⊥
PartFault (CutShort offset) rest q = ⊥
PartFault OutOfMemory rest q = ⊥

-- what is wrong with a segment's body, which stands at a place: well-formed parts, and then this
abbrev pub BodyFault : ReadError → List ℕ → ℕ → Type 0
BodyFault e body at =
    (parts : List SubRecord) × (rest : List ℕ)
    × (All IsPart parts × (body ≡ bytes_of_parts parts ++ rest) × (rest ≢ []) × NoPart rest
    × PartFault e rest (at + length (bytes_of_parts parts)))

-- the tags of the records whose fields may pass their body: strings, loaded classes, stack traces
abbrev pub field_tags : List ℕ
field_tags = 0x01 ∷ 0x02 ∷ 0x05 ∷ []

-- no fields of a record with this tag give this body
abbrev pub LacksFields : ℕ → List ℕ → Type 0
LacksFields tag body = (r : TopRecord) → HasFields r → tag_of r ≡ tag → body_of r ≡ body → ⊥

-- what is wrong with the body of a record at the place o, which stands behind its 9 bytes
abbrev pub ContentFault : ReadError → ℕ → List ℕ → ℕ → Type 0
ContentFault e tag body o =
    ((e ≡ PastEnd o) × (IsTrue (is_one_of field_tags tag) × LacksFields tag body))
    ⊎ (IsTrue (is_one_of segment_tags tag) × BodyFault e body (o + 9))

-- what is wrong with the record at the place o: it isn't whole, or it is whole and this is wrong with its body
abbrev pub RecordFault : ReadError → List ℕ → ℕ → Type 0
RecordFault e rest o =
    ((e ≡ CutShort o) × IsCut rest)
    ⊎ ((tag : ℕ) × (time : ℕ) × (body : List ℕ) × (after : List ℕ)
    × (IsFramed tag time body × (rest ≡ framed tag time body ++ after) × ContentFault e tag body o))

-- what is wrong with the records, which stand at a place: well-formed records, behind which something but no well-formed
-- record follows, and this is wrong with it
abbrev pub RecordsFault : ReadError → List ℕ → ℕ → Type 0
RecordsFault e text at =
    (records : List TopRecord) × (rest : List ℕ)
    × (AreRecords records × (text ≡ bytes_of_records records ++ rest) × (rest ≢ []) × NoRecord rest
    × RecordFault e rest (at + length (bytes_of_records records)))

-- what is wrong with the header
abbrev pub HeaderFault : ReadError → List ℕ → Type 0
HeaderFault (Magic offset) text = (offset ≡ 0) × ((rest : List ℕ) → text ≡ magic ++ rest → ⊥)
HeaderFault (IdSize offset) text =
    (offset ≡ 19) × ((size : List ℕ) × (rest : List ℕ) × ((text ≡ magic ++ (size ++ rest)) × (length size ≡ 4) × (size ≢ word 4)))
HeaderFault (CutShort offset) text =
    ((offset ≡ 19) × ((rest : List ℕ) × ((text ≡ magic ++ rest) × (length rest < 4))))
    ⊎ ((offset ≡ 23) × ((rest : List ℕ) × ((text ≡ magic ++ (word 4 ++ rest)) × (length rest < 8))))
HeaderFault (UnknownTag offset) text = ⊥
HeaderFault (PastEnd offset) text = ⊥
HeaderFault (BadType offset) text = ⊥
HeaderFault OutOfMemory text = ⊥

-- the first fault of a text: of its header, or of the records that stand behind its header's 31 bytes
abbrev pub IsFirstFault : ReadError → List ℕ → Type 0
IsFirstFault e text =
    HeaderFault e text
    ⊎ ((time : ℕ) × (body : List ℕ) × ((time < 2 ^ 64) × (text ≡ header_bytes time ++ body) × RecordsFault e body 31))
