-- How far a run of a script is.
use Rattle.std.specs.Prelude.{◌≡◌, ◌≢◌, ◌⊎◌, ℕ, ◌+◌, ◌<◌, ◌≤◌, Bool, false, List, [], ◌∷◌, ◌++◌, length, take}
use Rattle.ah_outside.specs.Outside.{FaultRose, Gave, Gained}
use Rattle.model_numbers.specs.Numbers.{input_limit}
use Rattle.heap_world.specs.World.{World}
use Rattle.plain_machine.specs.Worlds.{StandsAmong, StandsFor}
use Rattle.script_lang.specs.Feeding.{Feed, kept_line}
use Rattle.script_lang.specs.Parts.{is_byte, lines, parts, whole_lines}
use Rattle.script_report.specs.Report.{LineDone, answers_of, has_refusal, report_of, with_answer}
use Rattle.script_run.specs.declared.input.Progress.{Progress}
use Rattle.hprof_write.specs.declared.error.DumpError.{DumpError}
use Rattle.hprof_write.specs.declared.error.DumpError.TheVariants.{ShelfFault, OutOfMemory}
use Rattle.job_status.specs.declared.stop.Stop.{Stop}
use Rattle.job_status.specs.declared.stop.Stop.TheVariants.{Read, Write, Shelf, Memory, TooLong}
use Rattle.script_run.specs.Dumps.{HasShelved, StoppedShelving}
use Rattle.script_run.specs.Ends.{DumpedInPart, PutBehind, RanLines, WantedBehind}
use Rattle.script_run.specs.Outside.{Outside, Output, Setting}

-- why a run stops whose dump wasn't written whole
abbrev pub dump_stop : DumpError → Stop
dump_stop ShelfFault = Shelf
dump_stop OutOfMemory = Memory

-- the report's text for what the line of a number does
abbrev pub report_at : ℕ → LineDone → List ℕ
report_at n d = report_of (with_answer n d.reply [])

-- a line was run: its report was put, its dump written, and the machine stands for the world after it
pub record RanLine (time n : ℕ) (d : LineDone) (refused : Bool) (old new : Output) : Type 0 where
  pub report : Gained old.gained (report_at n d) new.gained
  pub dumps : HasShelved time d.dumps old.shelved new.shelved
  pub refusals : has_refusal (with_answer n d.reply []) ≡ refused
  pub stands : StandsFor new.machine d.world

-- a line has a report, whose first bytes were put; its dump was written, and the machine stands for the world after it
pub record PutInPart (time n : ℕ) (d : LineDone) (old new : Output) : Type 0 where
  pub replied : report_at n d ≢ []
  pub told : ℕ
  pub report : Gained old.gained (take told (report_at n d)) new.gained
  pub dumps : HasShelved time d.dumps old.shelved new.shelved
  pub stands : StandsFor new.machine d.world

-- nothing of a line's report was put, and no more than a part of its dump
pub record PutNothing (time : ℕ) (d : LineDone) (old new : Output) : Type 0 where
  pub report : new.gained ≡ old.gained
  pub dumps : (new.shelved.entries ≡ old.shelved.entries) ⊎ StoppedShelving time d.dumps old.shelved new.shelved

-- a line's dump was written in part, and the machine stands for the world after the line
pub record ShelvedInPart (time : ℕ) (d : LineDone) (old new : Output) : Type 0 where
  pub asked : d.dumps ≢ []
  pub put : PutNothing time d old new
  pub stands : StandsFor new.machine d.world

-- a line wasn't run: nothing was put nor added, and the machine stands for one of the worlds that it may leave
pub record NotRun (left : List World) (old new : Output) : Type 0 where
  pub report : new.gained ≡ old.gained
  pub dumps : new.shelved ≡ old.shelved
  pub stands : StandsAmong new.machine left

-- why a line wasn't run to its end, which may leave one of these worlds
abbrev pub StoppedLine : Stop → ℕ → ℕ → LineDone → List World → Output → Output → Type 0
StoppedLine Read time n d left old new = ⊥
StoppedLine Write time n d left old new = PutInPart time n d old new × FaultRose old.write_faults new.write_faults
StoppedLine Shelf time n d left old new = ShelvedInPart time d old new × FaultRose old.shelf_faults new.shelf_faults
StoppedLine Memory time n d left old new = NotRun left old new ⊎ ShelvedInPart time d old new
StoppedLine TooLong time n d left old new = ⊥

-- lines were run, whether some reply was a refusal is as said, and no count of faults has fallen
pub record HasRunLines (s : Setting) (ls : List (List ℕ)) (refused : Bool) (old new : Output) : Type 0 where
  pub ran : RanLines s ls old new
  pub refusals : has_refusal (answers_of s.budget ls) ≡ refused
  pub counted : old.write_faults ≤ new.write_faults
  pub shelf_counted : old.shelf_faults ≤ new.shelf_faults

-- the whole lines of a text were run, and the feed has the bytes behind them
pub record HasRun (s : Setting) (text : List ℕ) (feed : Feed) (refused : Bool) (old new : Output) : Type 0 where
  pub done : List (List ℕ)
  pub part : List ℕ
  pub cut : parts (is_byte 10) text ≡ done ++ part ∷ []
  pub number : feed.number ≡ 1 + length done
  pub kept : feed.kept ≡ kept_line part
  pub has_run : HasRunLines s done refused old new

-- why a line that follows others wasn't run to its end
abbrev pub StoppedBehind : Stop → Setting → List (List ℕ) → List ℕ → Output → Output → Type 0
StoppedBehind Read s before line old new = ⊥
StoppedBehind Write s before line old new = PutBehind s before line old new × FaultRose old.write_faults new.write_faults
StoppedBehind Shelf s before line old new = DumpedInPart s before line old new × FaultRose old.shelf_faults new.shelf_faults
StoppedBehind Memory s before line old new = WantedBehind s before line old new
StoppedBehind TooLong s before line old new = ⊥

-- a run stopped at a line of a text that a line feed ends, with fewer bytes of the text behind that than this
pub record StoppedIn (s : Setting) (text : List ℕ) (limit : ℕ) (stop : Stop) (old new : Output) : Type 0 where
  pub before : List (List ℕ)
  pub line : List ℕ
  pub upto : List ℕ
  pub behind : List ℕ
  pub text_is : text ≡ upto ++ behind
  pub got : lines upto ≡ before ++ line ∷ []
  pub ended : whole_lines upto ≡ before ++ line ∷ []
  pub few : length behind < limit
  pub stopped : StoppedBehind stop s before line old new

-- why the last line wasn't run
pub record StoppedLast (s : Setting) (text : List ℕ) (stop : Stop) (old new : Output) : Type 0 where
  pub before : List (List ℕ)
  pub line : List ℕ
  pub got : lines text ≡ before ++ line ∷ []
  pub stopped : StoppedBehind stop s before line old new

-- a run that takes bytes: its feed's line isn't whole, nor its text ended, and its lines are few enough for their numbers
pub record IsGoing (run : Progress) : Type 0 where
  pub unfinished : run.feed.whole ≡ false
  pub not_ended : run.feed.ended ≡ false
  pub few : run.feed.number + run.room ≤ 1 + input_limit

-- bytes were taken, their whole lines were run, and the feed has the bytes behind them; there is room for as many more
-- as the run tells. The count of the source's faults has not fallen
pub record HasTaken (s : Setting) (run : Progress) (old new : Outside) : Type 0 where
  pub text : List ℕ
  pub gave : Gave old.left text new.left
  pub fits : length text + run.room ≡ input_limit
  pub has_run : HasRun s text run.feed run.refused old.output new.output
  pub counted : old.read_faults ≤ new.read_faults
