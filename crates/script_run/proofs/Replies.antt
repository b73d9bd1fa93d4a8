-- A line that was answered: its dump was written and its reply was put, or one of the two stopped.
use Rattle.std.proofs.Common.{◌≡◌, ◌≢◌, inr, ℕ, Bool, List, [], Result, Ok, Err, MatchResult, refl, sym, subst}
use Rattle.ah_outside.specs.Outside.{FaultRose, Gained, GainedPrefix}
use Rattle.heap_world.specs.Run.{Answer}
use Rattle.heap_world.specs.World.{World}
use Rattle.hprof_write.specs.declared.error.DumpError.{DumpError}
use Rattle.hprof_write.specs.declared.error.DumpError.TheVariants.{ShelfFault, OutOfMemory}
use Rattle.job_status.specs.declared.stop.Stop.{Stop}
use Rattle.job_status.specs.declared.stop.Stop.TheVariants.{Write}
use Rattle.plain_machine.specs.Worlds.{StandsFor}
use Rattle.script_report.specs.Report.{LineDone, has_refusal, report_of, with_answer}
use Rattle.script_run.specs.Dumps.{HasShelved, StoppedShelving}
use Rattle.script_run.specs.Outside.{Output}
use Rattle.script_run.specs.Progress.{RanLine, ShelvedInPart, StoppedLine, dump_stop}

module _ (time n : ℕ) (d : LineDone) (left : List World) (old new : Output) (stands : StandsFor new.machine d.world) where
  -- the dump was written, and then the reply was put, or stopped
  pub put_behind : (given : List Answer) (r : Result Bool Stop) → given ≡ with_answer n d.reply [] → HasShelved time d.dumps old.shelved new.shelved
      → MatchResult r (λ refused. Gained old.gained (report_of given) new.gained × (has_refusal given ≡ refused))
      (λ stop. (stop ≡ Write) × (report_of given ≢ []) × GainedPrefix old.gained (report_of given) new.gained × FaultRose old.write_faults new.write_faults)
      → MatchResult r (λ refused. RanLine time n d refused old new) (λ stop. StoppedLine stop time n d left old new)
  put_behind given (Ok refused) is shelved put = record {
    report = subst (λ (xs : List Answer). Gained old.gained (report_of xs) new.gained) is put.0;
    dumps = shelved;
    refusals = subst (λ (xs : List Answer). has_refusal xs ≡ refused) is put.1;
    stands = stands;
  }
  put_behind given (Err stop) is shelved put =
      let part : GainedPrefix old.gained (report_of (with_answer n d.reply [])) new.gained = subst (λ (xs : List Answer). GainedPrefix old.gained (report_of xs) new.gained) is put.2 in
      subst (λ s. StoppedLine s time n d left old new) (sym put.0) (
        record {
          replied = subst (λ (xs : List Answer). report_of xs ≢ []) is put.1;
          told = part.0;
          report = part.1;
          dumps = shelved;
          stands = stands;
        },
        put.3,
      )

  -- the dump was written in part
  dumped_in_part : StoppedShelving time d.dumps old.shelved new.shelved → new.gained ≡ old.gained → ShelvedInPart time d old new
  dumped_in_part part same = record {
    asked = λ none. let one = part.1 in cc (none, one);
    put = record { report = same; dumps = inr part };
    stands = stands;
  }

  pub stops_dumping : (e : DumpError) → StoppedShelving time d.dumps old.shelved new.shelved → (e ≡ ShelfFault → FaultRose old.shelf_faults new.shelf_faults)
      → new.gained ≡ old.gained → StoppedLine (dump_stop e) time n d left old new
  stops_dumping ShelfFault part rose same = (dumped_in_part part same, rose refl)
  stops_dumping OutOfMemory part rose same = inr (dumped_in_part part same)
