-- One more line behind others: it was run, or stopped.
use Rattle.std.proofs.Common.{◌≡◌, inl, inr, ℕ, ◌+◌, ◌≤◌, ◌||◌, Bool, List, [], ◌∷◌, ◌++◌, length, take, sym, ◌∙◌, ap, subst, arith}
use Rattle.ah_outside.specs.Outside.{Gained}
use Rattle.plain_machine.specs.Worlds.{StandsFor}
use Rattle.script_report.specs.Report.{answers_of, dumps_of, has_refusal, line_dumps, line_report, report_of, step_line, world_of}
use Rattle.script_report.proofs.Reports.{dumps-more, next_answers, refusal-more, report-more, world-more}
use Rattle.script_report.specs.Wanting.{left_behind, line_left}
use Rattle.job_status.specs.declared.stop.Stop.{Stop}
use Rattle.job_status.specs.declared.stop.Stop.TheVariants.{Read, Write, Shelf, Memory, TooLong}
use Rattle.script_run.specs.Dumps.{HasShelved}
use Rattle.script_run.specs.Ends.{DumpedInPart, ShelvedBehind, StoppedBefore}
use Rattle.script_run.specs.Outside.{Output, Setting}
use Rattle.script_run.specs.Progress.{HasRunLines, NotRun, PutInPart, PutNothing, RanLine, ShelvedInPart, StoppedBehind, StoppedLine}
use Rattle.script_run.proofs.Dumps.{shelved-more}
use Rattle.job_status.proofs.Outside.{FaultRose-earlier, Gained-more}

-- a line behind others, and what is outside before the others, before it, and after it
module _ (s : Setting) (before : List (List ℕ)) (line : List ℕ) (n : ℕ) (refused : Bool) (old mid new : Output)
    (had : HasRunLines s before refused old mid) (is : n ≡ 1 + length before) (writes : mid.write_faults ≤ new.write_faults) (shelvings : mid.shelf_faults ≤ new.shelf_faults) where
  -- its dumps behind those of the others
  dumps_behind : HasShelved s.time (line_dumps s.budget before line) mid.shelved new.shelved → HasShelved s.time (dumps_of s.budget (before ++ line ∷ [])) old.shelved new.shelved
  dumps_behind next =
      subst (λ ds. HasShelved s.time ds old.shelved new.shelved) (sym (dumps-more s.budget before line))
      (shelved-more s.time (dumps_of s.budget before) (line_dumps s.budget before line) old.shelved mid.shelved new.shelved had.ran.dumps next)

  -- it was run
  pub runs_behind : (now : Bool) → RanLine s.time n (step_line (world_of s.budget before) n line) now mid new → HasRunLines s (before ++ line ∷ []) (refused || now) old new
  runs_behind now ran =
      let at : ℕ → Type 0 = λ k. RanLine s.time k (step_line (world_of s.budget before) k line) now mid new in
      let next : at (1 + length before) = subst at is ran in
      record {
        ran = record {
          report = subst (λ (xs : List ℕ). Gained old.gained xs new.gained) (sym (report-more s.budget before line))
              (Gained-more old.gained (report_of (answers_of s.budget before)) mid.gained (line_report s.budget before line) new.gained had.ran.report next.report);
          dumps = dumps_behind next.dumps;
          stands = subst (StandsFor new.machine) (sym (world-more s.budget before line)) next.stands;
        };
        refusals = refusal-more s.budget before line ∙ (ap (λ b. b || has_refusal (next_answers s.budget before line)) had.refusals ∙ ap (λ b. refused || b) next.refusals);
        counted = omega (arith, had.counted, writes);
        shelf_counted = omega (arith, had.shelf_counted, shelvings);
      }

  -- nothing of its report was put
  nothing_behind : PutNothing s.time (step_line (world_of s.budget before) (1 + length before) line) mid new → ShelvedBehind s before line old new
  nothing_behind put = record {
    report = subst (λ o. Gained old.gained (report_of (answers_of s.budget before)) o) (sym put.report) had.ran.report;
    dumps = record { mid = mid.shelved; first = had.ran.dumps; rest = put.dumps };
  }

  -- its dump was written in part
  dumped_behind : ShelvedInPart s.time (step_line (world_of s.budget before) (1 + length before) line) mid new → DumpedInPart s before line old new
  dumped_behind part = record {
    asked = part.asked;
    put = nothing_behind part.put;
    stands = subst (StandsFor new.machine) (sym (world-more s.budget before line)) part.stands;
  }

  -- it wasn't run
  not_run : NotRun (left_behind s.budget before line) mid new → StoppedBefore s before line old new
  not_run none = record {
    report = subst (λ o. Gained old.gained (report_of (answers_of s.budget before)) o) (sym none.report) had.ran.report;
    dumps = subst (λ o. HasShelved s.time (dumps_of s.budget before) old.shelved o) (sym none.dumps) had.ran.dumps;
    stands = none.stands;
  }

  -- it stopped
  pub stops_behind : (stop : Stop) → StoppedLine stop s.time n (step_line (world_of s.budget before) n line) (line_left (world_of s.budget before) n line) mid new → StoppedBehind stop s before line old new
  stops_behind Read stopped = absurd stopped
  stops_behind Write stopped =
      let at : ℕ → Type 0 = λ k. PutInPart s.time k (step_line (world_of s.budget before) k line) mid new in
      let part : at (1 + length before) = subst at is stopped.0 in (
        record {
          replied = part.replied;
          told = part.told;
          report = Gained-more old.gained (report_of (answers_of s.budget before)) mid.gained (take part.told (line_report s.budget before line)) new.gained had.ran.report part.report;
          dumps = dumps_behind part.dumps;
          stands = subst (StandsFor new.machine) (sym (world-more s.budget before line)) part.stands;
        },
        FaultRose-earlier old.write_faults mid.write_faults new.write_faults had.counted writes stopped.1,
      )
  stops_behind Shelf stopped =
      let at : ℕ → Type 0 = λ k. ShelvedInPart s.time (step_line (world_of s.budget before) k line) mid new in
      (dumped_behind (subst at is stopped.0), FaultRose-earlier old.shelf_faults mid.shelf_faults new.shelf_faults had.shelf_counted shelvings stopped.1)
  stops_behind Memory (inl none) = inl (not_run (subst (λ k. NotRun (line_left (world_of s.budget before) k line) mid new) is none))
  stops_behind Memory (inr part) = inr (dumped_behind (subst (λ k. ShelvedInPart s.time (step_line (world_of s.budget before) k line) mid new) is part))
  stops_behind TooLong stopped = absurd stopped
