-- What is put of a text, and the status of a reading.
use Rattle.std.specs.Prelude.{◌≡◌, ◌≢◌, ◌⊎◌, ℕ, Bool, true, false, List, Option, None, Some, Result, Ok, Err}
use Rattle.ah_outside.specs.Outside.{FaultRose, Gained, GainedPrefix}
use Rattle.hprof_convert.specs.declared.convert_error.ConvertError.{ConvertError}
use Rattle.hprof_convert.specs.declared.convert_error.ConvertError.TheVariants.{NoLayout, OutOfMemory}
use Rattle.hprof_list.specs.Listing.{listing}
use Rattle.hprof_records.specs.declared.top_record.TopRecord.{TopRecord}
use Rattle.hprof_records.specs.Records.{dump_bytes}
use Rattle.job_status.specs.declared.status.Status.{Status}
use Rattle.job_status.specs.declared.status.Status.TheVariants as status
use Rattle.job_status.specs.declared.stop.Stop.{Stop}
use Rattle.job_status.specs.declared.stop.Stop.TheVariants.{Read, Write, Shelf, Memory, TooLong}
use Rattle.job_status.specs.Status.{stop_status}
use Rattle.read_job.specs.declared.question.Question.{Question}
use Rattle.read_job.specs.declared.question.Question.TheVariants.{Listing, Path, Converted}
use Rattle.read_job.specs.Ends.{IsTold, TellsFault, line_of, path_told}

-- what is told of the dump that stands in memory, of a time and records: its listing, a path to an object, or its bytes
abbrev pub told_of : Question → ℕ → List TopRecord → List ℕ
told_of Listing time records = listing time records
told_of (Path id) time records = path_told id time records
told_of Converted time records = dump_bytes time records

-- the number of what keeps a wide dump from being converted, and its offset; want of memory is no fault
abbrev pub missing_number : ConvertError → Option (ℕ × ℕ)
missing_number (NoLayout offset) = Some (7, offset)
missing_number OutOfMemory = None

-- what is put of a text, by whether it is what the question asks for
abbrev pub IsAnswer : Question → Bool → List ℕ → List ℕ → Type 0
IsAnswer question true text put = IsTold question text put
IsAnswer question false text put = TellsFault question text put

-- the answer to a text was put
abbrev pub Told : Question → Bool → List ℕ → Option (List ℕ) → Option (List ℕ) → Type 0
Told question is_dump text held held' = (put : List ℕ) × (IsAnswer question is_dump text put × Gained held put held')

-- why what is asked of a dump wasn't put whole
abbrev pub StoppedDump : Stop → List ℕ → Option (List ℕ) → ℕ → Option (List ℕ) → ℕ → Type 0
StoppedDump Read put held writes held' writes' = ⊥
StoppedDump Write put held writes held' writes' = GainedPrefix held put held' × FaultRose writes writes'
StoppedDump Shelf put held writes held' writes' = ⊥
StoppedDump Memory put held writes held' writes' = held' ≡ held
StoppedDump TooLong put held writes held' writes' = ⊥

-- why the answer to a text wasn't put whole
abbrev pub StoppedTelling : Question → Stop → List ℕ → Option (List ℕ) → ℕ → Option (List ℕ) → ℕ → Type 0
StoppedTelling question Read text held writes held' writes' = ⊥
StoppedTelling question Write text held writes held' writes' =
    (put : List ℕ) × ((IsTold question text put ⊎ TellsFault question text put) × GainedPrefix held put held' × FaultRose writes writes')
StoppedTelling question Shelf text held writes held' writes' = ⊥
StoppedTelling question Memory text held writes held' writes' = held' ≡ held
StoppedTelling question TooLong text held writes held' writes' = ⊥

-- why the line of a fault's number and offset, where they are there, wasn't put whole
abbrev pub StoppedFault : Stop → Option (ℕ × ℕ) → Option (List ℕ) → ℕ → Option (List ℕ) → ℕ → Type 0
StoppedFault Read fault held writes held' writes' = ⊥
StoppedFault Write fault held writes held' writes' = (fault ≢ None) × GainedPrefix held (line_of fault) held' × FaultRose writes writes'
StoppedFault Shelf fault held writes held' writes' = ⊥
StoppedFault Memory fault held writes held' writes' = held' ≡ held
StoppedFault TooLong fault held writes held' writes' = ⊥

-- the status of a reading that ended, by whether the text is what was asked for
abbrev pub told_status : Bool → Status
told_status true = status.Ok
told_status false = status.NotDump

-- the status of a reading
abbrev pub read_status : Result Bool Stop → Status
read_status (Ok is_dump) = told_status is_dump
read_status (Err stop) = stop_status stop
