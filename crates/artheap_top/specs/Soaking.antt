-- What is counted while the lines of a soak are run, and how a soak may end.
use Rattle.std.specs.Prelude.{◌≡◌, ◌⊎◌, ℕ, ◌+◌, ◌≤◌, Bool, true, false, List, [], ◌++◌, Option, None, Some, length}
use Rattle.ah_outside.specs.Outside.{FaultRose, Gained, GainedPrefix}
use Rattle.heap_world.specs.declared.reply.Reply.{Reply}
use Rattle.heap_world.specs.Effect.{is_refusal}
use Rattle.heap_world.specs.World.{empty_world}
use Rattle.plain_machine.specs.Worlds.{Meaning, StandsAmong, StandsFor}
use Rattle.script_make.specs.Script.{soak_lines}
use Rattle.script_report.specs.Report.{answers_of, has_refusal, world_of}
use Rattle.script_report.specs.Wanting.{left_between}
use Rattle.job_status.specs.declared.status.Status.{Status}
use Rattle.job_status.specs.declared.status.Status.TheVariants as status
use Rattle.artheap_top.specs.declared.tally.Tally.{Tally}
use Rattle.artheap_top.specs.Summary.{collection_count, refusal_count, summary, tells_collection}

-- no line was counted
abbrev pub no_lines : Tally
no_lines = record { lines = 0; refused = 0; collections = 0 }

-- a count after one more, where it is to be counted
abbrev pub one_more_if : Bool → ℕ → ℕ
one_more_if true n = n + 1
one_more_if false n = n

-- what was counted after a line and its reply, if it has one
abbrev pub counted : Tally → Option Reply → Tally
counted t None = record t { lines = t.lines + 1 }
counted t (Some r) = record {
  lines = t.lines + 1;
  refused = one_more_if (is_refusal r) t.refused;
  collections = one_more_if (tells_collection r) t.collections;
}

-- no count is above that of the lines
pub record IsWithinLines (t : Tally) : Type 0 where
  pub refused : t.refused ≤ t.lines
  pub collections : t.collections ≤ t.lines

-- lines were run: what was counted of them, and the machine stands for the world after them
pub record HasSoaked (budget : ℕ) (ls : List (List ℕ)) (t : Tally) (machine : Meaning) : Type 0 where
  pub lines : t.lines ≡ length ls
  pub refused : t.refused ≡ refusal_count (answers_of budget ls)
  pub collections : t.collections ≡ collection_count (answers_of budget ls)
  pub stands : StandsFor machine (world_of budget ls)

-- what a soak changes: the bytes that the sink has gained, where it tells them, its count of faults, and the machine
pub record SoakOutput : Type 0 where
  pub gained : Option (List ℕ)
  pub write_faults : ℕ
  pub machine : Meaning

-- what a soak changes, from what a sink tells and from a machine
abbrev pub soak_output : Option (List ℕ) → ℕ → Meaning → SoakOutput
soak_output held faults m = record { gained = held; write_faults = faults; machine = m }

-- the generated lines were run, and the machine stands for the world after them
pub record Soaked (budget start count : ℕ) (refused : Bool) (new : SoakOutput) : Type 0 where
  pub refusals : has_refusal (answers_of budget (soak_lines start count)) ≡ refused
  pub stands : StandsFor new.machine (world_of budget (soak_lines start count))

-- memory was wanting for one of some lines that follow others, or behind them all: the machine stands for one of the worlds
-- that may be left there
pub record LeftBetween (budget : ℕ) (before ls : List (List ℕ)) (machine : Meaning) : Type 0 where
  pub done : List (List ℕ)
  pub rest : List (List ℕ)
  pub are : ls ≡ done ++ rest
  pub stands : StandsAmong machine (left_between budget (before ++ done) rest)

-- the machine is new, or memory was wanting among the generated lines
abbrev pub LeftSoaking : ℕ → ℕ → ℕ → Meaning → Type 0
LeftSoaking budget start count machine = StandsFor machine empty_world ⊎ LeftBetween budget [] (soak_lines start count) machine

-- what a soak leaves, by its status. It reads nothing
abbrev pub EndedSoak : ℕ → ℕ → ℕ → Status → SoakOutput → SoakOutput → Type 0
EndedSoak budget start count status.Ok old new = Gained old.gained (summary budget start count) new.gained × Soaked budget start count false new
EndedSoak budget start count status.Refused old new = Gained old.gained (summary budget start count) new.gained × Soaked budget start count true new
EndedSoak budget start count status.Usage old new = ⊥
EndedSoak budget start count status.ReadFault old new = ⊥
EndedSoak budget start count status.WriteFault old new =
    GainedPrefix old.gained (summary budget start count) new.gained × StandsFor new.machine (world_of budget (soak_lines start count)) × FaultRose old.write_faults new.write_faults
EndedSoak budget start count status.OutOfMemory old new = (new.gained ≡ old.gained) × LeftSoaking budget start count new.machine
EndedSoak budget start count status.ShelfFault old new = ⊥
EndedSoak budget start count status.NotDump old new = ⊥
EndedSoak budget start count status.TooLong old new = ⊥
