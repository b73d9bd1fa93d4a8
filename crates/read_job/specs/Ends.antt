-- How a reading of a dump may end, and what it leaves: each ending relates what the source and the sink tell before it to what they tell after it.
use Rattle.std.specs.Prelude.{◌≡◌, ◌⊎◌, ℕ, ◌+◌, ◌<◌, ◌≤◌, ◌^◌, List, [], ◌∷◌, Option, None, Some, codes, decimal, length}
use Rattle.std.specs.List.{concat}
use Rattle.ah_outside.specs.Outside.{FaultRose, Gave, Gained, GainedPrefix}
use Rattle.dump_graph.specs.Graph.{graph, parts}
use Rattle.hprof_convert.specs.Converted.{converted}
use Rattle.hprof_convert.specs.Missing.{missing_layout}
use Rattle.hprof_list.specs.Listing.{listing}
use Rattle.hprof_read.specs.declared.read_error.ReadError.{ReadError}
use Rattle.hprof_read.specs.declared.read_error.ReadError.TheVariants.{Magic, IdSize, CutShort, UnknownTag, PastEnd, BadType, OutOfMemory}
use Rattle.hprof_read.specs.Fault.{IsFirstFault}
use Rattle.hprof_records.specs.declared.top_record.TopRecord.{TopRecord}
use Rattle.hprof_records.specs.Dump.{AreRecords}
use Rattle.hprof_records.specs.Records.{dump_bytes}
use Rattle.hprof_wide.specs.declared.wide_error.WideError.{WideError}
use Rattle.hprof_wide.specs.declared.wide_error.WideError.TheVariants as wide
use Rattle.hprof_wide.specs.declared.wide_top.WideTop.{WideTop}
use Rattle.hprof_wide.specs.Dump.{IsWideDumpOf}
use Rattle.hprof_wide.specs.Fault.{IsFirstWideFault}
use Rattle.job_status.specs.declared.status.Status.{Status}
use Rattle.job_status.specs.declared.status.Status.TheVariants as status
use Rattle.job_status.specs.Inputs.{NothingLeft}
use Rattle.model_numbers.specs.Numbers.{input_limit, piece_bytes}
use Rattle.read_job.specs.declared.question.Question.{Question}
use Rattle.read_job.specs.declared.question.Question.TheVariants.{Listing, Path, Converted}
use Rattle.root_paths.specs.Answer.{answer}

-- what a reading changes: the bytes that the source has left, where it tells them, its count of faults, the bytes that
-- the sink has gained, where it tells them, and its count of faults
pub record Streams : Type 0 where
  pub left : Option (List ℕ)
  pub read_faults : ℕ
  pub gained : Option (List ℕ)
  pub write_faults : ℕ

-- what a reading changes, from what a source and a sink tell
abbrev pub streams_of : Option (List ℕ) → ℕ → Option (List ℕ) → ℕ → Streams
streams_of rest reads held writes = record { left = rest; read_faults = reads; gained = held; write_faults = writes }

-- the whole input was taken
pub record TookAll (text : List ℕ) (old new : Streams) : Type 0 where
  pub gave : Gave old.left text new.left
  pub nothing_left : NothingLeft new.left
  pub fits : length text ≤ input_limit

-- more bytes were taken than are allowed, by one piece at most
pub record TookTooMany (old new : Streams) : Type 0 where
  pub taken : List ℕ
  pub gave : Gave old.left taken new.left
  pub too_many : input_limit < length taken
  pub barely : length taken ≤ input_limit + piece_bytes

-- the text is a dump, and this is what is told of its time and its records
abbrev pub TellsDump : (ℕ → List TopRecord → List ℕ) → List ℕ → List ℕ → Type 0
TellsDump told text put =
    (time : ℕ) × (records : List TopRecord)
    × ((time < 2 ^ 64) × AreRecords records × (text ≡ dump_bytes time records) × (put ≡ told time records))

-- the text is a wide dump in which each instance has a layout, and these are the bytes of the dump that it is converted
-- to, whose records are well formed
abbrev pub TellsConverted : List ℕ → List ℕ → Type 0
TellsConverted text put =
    (w : ℕ) × (time : ℕ) × (records : List WideTop)
    × (IsWideDumpOf w time records text × (missing_layout w records ≡ None) × AreRecords (converted w records)
    × (put ≡ dump_bytes time (converted w records)))

-- what is told of the dump of a time and records: a path to an object
abbrev pub path_told : ℕ → ℕ → List TopRecord → List ℕ
path_told id time records = answer (graph (parts records)) id

-- the text is a dump, or for a conversion a wide one, and this is what is told of it
abbrev pub IsTold : Question → List ℕ → List ℕ → Type 0
IsTold Listing text put = TellsDump listing text put
IsTold (Path id) text put = TellsDump (path_told id) text put
IsTold Converted text put = TellsConverted text put

-- the line that tells a fault by its number and its offset
abbrev pub numbered_line : ℕ → ℕ → List ℕ
numbered_line number offset = concat (codes "not a dump: H" ∷ decimal number ∷ codes " at " ∷ decimal offset ∷ codes "\n" ∷ [])

-- the number of a fault, and its offset; want of memory is no fault
abbrev pub fault_number : ReadError → Option (ℕ × ℕ)
fault_number (Magic offset) = Some (1, offset)
fault_number (IdSize offset) = Some (2, offset)
fault_number (CutShort offset) = Some (3, offset)
fault_number (UnknownTag offset) = Some (4, offset)
fault_number (PastEnd offset) = Some (5, offset)
fault_number (BadType offset) = Some (6, offset)
fault_number OutOfMemory = None

-- the line of a number and an offset, where they are there
abbrev pub line_of : Option (ℕ × ℕ) → List ℕ
line_of None = []
line_of (Some fault) = numbered_line fault.0 fault.1

-- the line that tells a fault
abbrev pub fault_line : ReadError → List ℕ
fault_line e = line_of (fault_number e)

-- the text is no dump, and this is the line that tells its first fault
abbrev pub TellsDumpFault : List ℕ → List ℕ → Type 0
TellsDumpFault text put = (e : ReadError) × (IsFirstFault e text × (put ≡ fault_line e))

-- the number of a wide dump's fault, and its offset; want of memory is no fault
abbrev pub wide_fault_number : WideError → Option (ℕ × ℕ)
wide_fault_number (wide.Magic offset) = Some (1, offset)
wide_fault_number (wide.IdSize offset) = Some (2, offset)
wide_fault_number (wide.CutShort offset) = Some (3, offset)
wide_fault_number (wide.UnknownTag offset) = Some (4, offset)
wide_fault_number (wide.PastEnd offset) = Some (5, offset)
wide_fault_number (wide.BadType offset) = Some (6, offset)
wide_fault_number wide.OutOfMemory = None

-- the line that tells a wide dump's fault
abbrev pub wide_fault_line : WideError → List ℕ
wide_fault_line e = line_of (wide_fault_number e)

-- the text is no wide dump, and this is the line that tells its first fault
abbrev pub TellsWideFault : List ℕ → List ℕ → Type 0
TellsWideFault text put = (e : WideError) × (IsFirstWideFault e text × (put ≡ wide_fault_line e))

-- the text is a wide dump, and this is the line that tells the place of its first instance without a layout
abbrev pub TellsMissing : List ℕ → List ℕ → Type 0
TellsMissing text put =
    (w : ℕ) × (time : ℕ) × (records : List WideTop) × (offset : ℕ)
    × (IsWideDumpOf w time records text × (missing_layout w records ≡ Some offset) × (put ≡ numbered_line 7 offset))

-- nothing but a fault can be told of the text, and this is the line that tells it
abbrev pub TellsFault : Question → List ℕ → List ℕ → Type 0
TellsFault Listing text put = TellsDumpFault text put
TellsFault (Path id) text put = TellsDumpFault text put
TellsFault Converted text put = TellsWideFault text put ⊎ TellsMissing text put

-- the whole input was taken, it is a dump of the kind that is asked for, and what is told of it was put
abbrev pub ToldDump : Question → Streams → Streams → Type 0
ToldDump question old new = (text : List ℕ) × (put : List ℕ) × (TookAll text old new × IsTold question text put × Gained old.gained put new.gained)

-- the whole input was taken, and the line that tells its fault was put
abbrev pub ToldFault : Question → Streams → Streams → Type 0
ToldFault question old new = (text : List ℕ) × (put : List ℕ) × (TookAll text old new × TellsFault question text put × Gained old.gained put new.gained)

-- the whole input was taken, and some first bytes were put of what is put of it, maybe none and maybe all
abbrev pub ToldInPart : Question → Streams → Streams → Type 0
ToldInPart question old new =
    (text : List ℕ) × (put : List ℕ)
    × (TookAll text old new × (IsTold question text put ⊎ TellsFault question text put) × GainedPrefix old.gained put new.gained)

-- what a reading leaves, by its status
abbrev pub EndedRead : Question → Status → Streams → Streams → Type 0
EndedRead question status.Ok old new = ToldDump question old new
EndedRead question status.Refused old new = ⊥
EndedRead question status.Usage old new = ⊥
EndedRead question status.ReadFault old new = FaultRose old.read_faults new.read_faults × (new.gained ≡ old.gained)
EndedRead question status.WriteFault old new = ToldInPart question old new × FaultRose old.write_faults new.write_faults
EndedRead question status.OutOfMemory old new = new.gained ≡ old.gained
EndedRead question status.ShelfFault old new = ⊥
EndedRead question status.NotDump old new = ToldFault question old new
EndedRead question status.TooLong old new = TookTooMany old new × (new.gained ≡ old.gained)

-- the answers of a reading that was not stopped by a fault or by its input's length
abbrev pub EndsTold : Status → Type 0
EndsTold status.Ok = Unit {0}
EndsTold status.Refused = ⊥
EndsTold status.Usage = ⊥
EndsTold status.ReadFault = ⊥
EndsTold status.WriteFault = ⊥
EndsTold status.OutOfMemory = Unit {0}
EndsTold status.ShelfFault = ⊥
EndsTold status.NotDump = Unit {0}
EndsTold status.TooLong = ⊥
