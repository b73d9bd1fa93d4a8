-- How a run of a script may end, and what it leaves: each ending relates what was outside before the run to what is there after it.
use Rattle.std.specs.Prelude.{◌≡◌, ◌≢◌, ◌⊎◌, ℕ, ◌+◌, ◌<◌, ◌≤◌, Bool, true, false, List, [], ◌∷◌, ◌++◌, length, map, take}
use Rattle.ah_outside.specs.Outside.{FaultRose, Gave, Gained}
use Rattle.model_numbers.specs.Numbers.{input_limit, piece_bytes}
use Rattle.heap_world.specs.Isolation.{NoNameTaken}
use Rattle.heap_world.specs.World.{empty_world}
use Rattle.plain_machine.specs.Worlds.{StandsAmong, StandsFor}
use Rattle.script_lang.specs.Parts.{lines, whole_lines}
use Rattle.script_report.specs.Own.{AreAloneIn, told_by_script}
use Rattle.script_report.specs.Report.{answers, answers_of, dumps_of, has_refusal, last_world, line_dumps, line_report, report_of, world_of}
use Rattle.script_report.specs.Wanting.{left_behind}
use Rattle.job_status.specs.Inputs.{NothingLeft}
use Rattle.job_status.specs.declared.status.Status.{Status}
use Rattle.job_status.specs.declared.status.Status.TheVariants as status
use Rattle.script_run.specs.Dumps.{HasShelved, HasShelvedBut}
use Rattle.script_run.specs.Outside.{Outside, Output, Setting}

-- the answers of a job that was neither refused for its words nor stopped by a fault or by its input's length
abbrev pub EndsWell : Status → Type 0
EndsWell status.Ok = Unit {0}
EndsWell status.Refused = Unit {0}
EndsWell status.Usage = ⊥
EndsWell status.ReadFault = ⊥
EndsWell status.WriteFault = ⊥
EndsWell status.OutOfMemory = Unit {0}
EndsWell status.ShelfFault = ⊥
EndsWell status.NotDump = ⊥
EndsWell status.TooLong = ⊥

-- lines were run: the sink has gained their report, the shelf the entries of their dumps, and the machine stands for the
-- world after them
pub record RanLines (s : Setting) (ls : List (List ℕ)) (old new : Output) : Type 0 where
  pub report : Gained old.gained (report_of (answers_of s.budget ls)) new.gained
  pub dumps : HasShelved s.time (dumps_of s.budget ls) old.shelved new.shelved
  pub stands : StandsFor new.machine (world_of s.budget ls)

-- the whole input was taken, and its lines were run. Where no fork was refused since its name was taken, each process
-- that was made answered, but for counts of frames, and is what its own lines alone make of it
pub record RanToEnd (s : Setting) (refused : Bool) (old new : Outside) : Type 0 where
  pub text : List ℕ
  pub gave : Gave old.left text new.left
  pub nothing_left : NothingLeft new.left
  pub fits : length text ≤ input_limit
  pub ran : RanLines s (lines text) old.output new.output
  pub refusals : has_refusal (answers_of s.budget (lines text)) ≡ refused
  pub isolated : NoNameTaken (answers s.budget text) → AreAloneIn s.budget text (told_by_script s.budget text)
  pub told : map (λ t. t.name) (told_by_script s.budget text) ≡ map (λ q. q.name) (last_world s.budget text).processes

-- a read failed: every line whose line feed had been taken was run
pub record StoppedReading (s : Setting) (old new : Outside) : Type 0 where
  pub taken : List ℕ
  pub gave : Gave old.left taken new.left
  pub fits : length taken ≤ input_limit
  pub ran : RanLines s (whole_lines taken) old.output new.output

-- more bytes were taken than are allowed, by one piece at most: every line whose line feed is within the limit was run
pub record TookTooMany (s : Setting) (old new : Outside) : Type 0 where
  pub taken : List ℕ
  pub gave : Gave old.left taken new.left
  pub too_many : input_limit < length taken
  pub barely : length taken ≤ input_limit + piece_bytes
  pub ran : RanLines s (whole_lines (take input_limit taken)) old.output new.output

-- how far an input was taken for these lines: up to and with the line feed of the last one, which is within the limit,
-- and fewer bytes behind than a piece has; at the end of the input the last line may lack its line feed
pub record CameTo (old new : Outside) (ls : List (List ℕ)) : Type 0 where
  pub upto : List ℕ
  pub behind : List ℕ
  pub gave : Gave old.left (upto ++ behind) new.left
  pub got : lines upto ≡ ls
  pub ended : (whole_lines upto ≡ ls) ⊎ ((behind ≡ []) × NothingLeft new.left)
  pub within : length upto ≤ input_limit
  pub few : length behind < piece_bytes

-- the report of lines was put, and the first bytes of that of the next one, which has one; the shelf has the entries of
-- their dumps and of its own, and the machine stands for the world after it
pub record PutBehind (s : Setting) (before : List (List ℕ)) (line : List ℕ) (old new : Output) : Type 0 where
  pub replied : line_report s.budget before line ≢ []
  pub told : ℕ
  pub report : Gained old.gained (report_of (answers_of s.budget before) ++ take told (line_report s.budget before line)) new.gained
  pub dumps : HasShelved s.time (dumps_of s.budget (before ++ line ∷ [])) old.shelved new.shelved
  pub stands : StandsFor new.machine (world_of s.budget (before ++ line ∷ []))

-- the report of lines was put, and nothing of that of the next one; the shelf has the entries of their dumps, and the
-- first ones of its own, the last of them maybe in part
pub record ShelvedBehind (s : Setting) (before : List (List ℕ)) (line : List ℕ) (old new : Output) : Type 0 where
  pub report : Gained old.gained (report_of (answers_of s.budget before)) new.gained
  pub dumps : HasShelvedBut s.time (dumps_of s.budget before) (line_dumps s.budget before line) old.shelved new.shelved

-- the next one asks for a dump, and the machine stands for the world after it
pub record DumpedInPart (s : Setting) (before : List (List ℕ)) (line : List ℕ) (old new : Output) : Type 0 where
  pub asked : line_dumps s.budget before line ≢ []
  pub put : ShelvedBehind s before line old new
  pub stands : StandsFor new.machine (world_of s.budget (before ++ line ∷ []))

-- a write failed: the line has a reply, was run behind the others, and of its report the first bytes were put
pub record StoppedWriting (s : Setting) (old new : Outside) : Type 0 where
  pub before : List (List ℕ)
  pub line : List ℕ
  pub came : CameTo old new (before ++ line ∷ [])
  pub put : PutBehind s before line old.output new.output

-- the shelf failed: the line asks for a dump and was run behind the others, and of the dump's entries the first were added
pub record StoppedDumping (s : Setting) (old new : Outside) : Type 0 where
  pub before : List (List ℕ)
  pub line : List ℕ
  pub came : CameTo old new (before ++ line ∷ [])
  pub put : DumpedInPart s before line old.output new.output

-- nothing was taken, and no line was run: the machine is new, or stands for the world before the first line
pub record NotBegun (s : Setting) (old new : Outside) : Type 0 where
  pub nothing_taken : new.left ≡ old.left
  pub nothing_put : Gained old.output.gained [] new.output.gained
  pub nothing_shelved : new.output.shelved.entries ≡ old.output.shelved.entries
  pub stands : StandsFor new.output.machine empty_world ⊎ StandsFor new.output.machine (world_of s.budget [])

-- the report of lines was put and the shelf has the entries of their dumps, and no more. Memory was wanting for the next
-- one, and the machine stands for one of the worlds that it may leave
pub record StoppedBefore (s : Setting) (before : List (List ℕ)) (line : List ℕ) (old new : Output) : Type 0 where
  pub report : Gained old.gained (report_of (answers_of s.budget before)) new.gained
  pub dumps : HasShelved s.time (dumps_of s.budget before) old.shelved new.shelved
  pub stands : StandsAmong new.machine (left_behind s.budget before line)

-- memory was wanting for a line behind those that were run, or, after it was run, for its dump
abbrev pub WantedBehind : Setting → List (List ℕ) → List ℕ → Output → Output → Type 0
WantedBehind s before line old new = StoppedBefore s before line old new ⊎ DumpedInPart s before line old new

pub record WantedMemory (s : Setting) (old new : Outside) : Type 0 where
  pub before : List (List ℕ)
  pub line : List ℕ
  pub came : CameTo old new (before ++ line ∷ [])
  pub put : WantedBehind s before line old.output new.output

-- memory was wanting, before the first line or for a line
abbrev pub StoppedForMemory : Setting → Outside → Outside → Type 0
StoppedForMemory s old new = NotBegun s old new ⊎ WantedMemory s old new

-- what a run leaves, by its status
abbrev pub EndedRun : Setting → Status → Outside → Outside → Type 0
EndedRun s status.Ok old new = RanToEnd s false old new
EndedRun s status.Refused old new = RanToEnd s true old new
EndedRun s status.Usage old new = ⊥
EndedRun s status.ReadFault old new = StoppedReading s old new × FaultRose old.read_faults new.read_faults
EndedRun s status.WriteFault old new = StoppedWriting s old new × FaultRose old.output.write_faults new.output.write_faults
EndedRun s status.OutOfMemory old new = StoppedForMemory s old new
EndedRun s status.ShelfFault old new = StoppedDumping s old new × FaultRose old.output.shelf_faults new.output.shelf_faults
EndedRun s status.NotDump old new = ⊥
EndedRun s status.TooLong old new = TookTooMany s old new
