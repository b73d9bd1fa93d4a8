-- What is put of a text.
use Rattle.std.proofs.Common.{◌≡◌, inr, ℕ, Bool, true, false, List, Option, None, Result, Ok, Err, MatchResult}
use Rattle.ah_outside.specs.Outside.{FaultRose}
use Rattle.job_status.proofs.Inputs.{few_given}
use Rattle.job_status.specs.declared.status.Status.{Status}
use Rattle.job_status.specs.declared.status.Status.TheVariants as status
use Rattle.job_status.specs.declared.stop.Stop.{Stop}
use Rattle.job_status.specs.declared.stop.Stop.TheVariants.{Read, Write, Shelf, Memory, TooLong}
use Rattle.job_status.specs.Inputs.{HasFewLeft}
use Rattle.job_status.specs.Status.{stop_status}
use Rattle.read_job.specs.declared.question.Question.{Question}
use Rattle.read_job.specs.Ends.{EndedRead, EndsTold, Streams, TellsFault, TookAll, line_of, streams_of}
use Rattle.read_job.specs.Telling.{StoppedFault, StoppedTelling, Told, read_status}

-- where the line of a fault wasn't put whole, neither was the answer to a text with this fault
pub stops_telling : (question : Question) (stop : Stop) (fault : Option (ℕ × ℕ)) (text : List ℕ) (held : Option (List ℕ)) (writes : ℕ) (held' : Option (List ℕ)) (writes' : ℕ)
    → ((fault ≡ None → ⊥) → TellsFault question text (line_of fault)) → StoppedFault stop fault held writes held' writes'
    → StoppedTelling question stop text held writes held' writes'
stops_telling question Read fault text held writes held' writes' tells s = absurd s
stops_telling question Write fault text held writes held' writes' tells s = (line_of fault, (inr (tells s.0), s.1, s.2))
stops_telling question Shelf fault text held writes held' writes' tells s = absurd s
stops_telling question Memory fault text held writes held' writes' tells s = s
stops_telling question TooLong fault text held writes held' writes' tells s = absurd s

-- the input was taken, and then the answer to it was put, or not wholly
module _ (question : Question) (text : List ℕ) (left : Option (List ℕ)) (reads : ℕ) (held : Option (List ℕ)) (writes : ℕ) (left' : Option (List ℕ)) (reads' : ℕ) (held' : Option (List ℕ)) (writes' : ℕ)
    (took : TookAll text (streams_of left reads held writes) (streams_of left' reads' held writes)) where
  took_all : TookAll text (streams_of left reads held writes) (streams_of left' reads' held' writes')
  took_all = record { gave = took.gave; nothing_left = took.nothing_left; fits = took.fits }

  stops : (stop : Stop) → StoppedTelling question stop text held writes held' writes' → EndedRead question (stop_status stop) (streams_of left reads held writes) (streams_of left' reads' held' writes')
  stops Read s = absurd s
  stops Write s = ((text, s.0, (took_all, s.1.0, s.1.1)), s.1.2)
  stops Shelf s = absurd s
  stops Memory s = s
  stops TooLong s = absurd s

  pub reading_ends : (r : Result Bool Stop)
      → MatchResult r (λ is_dump. Told question is_dump text held held') (λ stop. StoppedTelling question stop text held writes held' writes')
      → EndedRead question (read_status r) (streams_of left reads held writes) (streams_of left' reads' held' writes')
  reading_ends (Ok true) told = (text, told.0, (took_all, told.1.0, told.1.1))
  reading_ends (Ok false) told = (text, told.0, (took_all, told.1.0, told.1.1))
  reading_ends (Err stop) s = stops stop s

-- with no fault and an input within the limit, only want of memory stops a reading
pub reading_completes : (question : Question) (s : Status) (old new : Streams) → EndedRead question s old new → HasFewLeft old.left
    → (FaultRose old.read_faults new.read_faults → ⊥) → (FaultRose old.write_faults new.write_faults → ⊥) → EndsTold s
reading_completes question status.Ok old new ended few reads puts = tt
reading_completes question status.Refused old new ended few reads puts = absurd ended
reading_completes question status.Usage old new ended few reads puts = absurd ended
reading_completes question status.ReadFault old new ended few reads puts = absurd (reads ended.0)
reading_completes question status.WriteFault old new ended few reads puts = absurd (puts ended.1)
reading_completes question status.OutOfMemory old new ended few reads puts = tt
reading_completes question status.ShelfFault old new ended few reads puts = absurd ended
reading_completes question status.NotDump old new ended few reads puts = tt
reading_completes question status.TooLong old new ended few reads puts = absurd (few_given old.left new.left ended.0.taken few ended.0.gave ended.0.too_many)
