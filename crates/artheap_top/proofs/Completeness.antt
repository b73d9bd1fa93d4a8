-- With no fault and an input within the limit, only want of memory stops a job.
use Rattle.std.proofs.Common.{ℕ}
use Rattle.ah_outside.specs.Outside.{FaultRose}
use Rattle.job_status.proofs.Inputs.{few_given}
use Rattle.job_status.specs.Inputs.{HasFewLeft}
use Rattle.job_status.specs.declared.status.Status.{Status}
use Rattle.job_status.specs.declared.status.Status.TheVariants as status
use Rattle.script_run.specs.Ends.{EndedRun, EndsWell}
use Rattle.script_run.specs.Outside.{Outside, Setting}
use Rattle.artheap_top.specs.Soaking.{EndedSoak, SoakOutput}

pub run_completes : (s : Setting) (status : Status) (old new : Outside) → EndedRun s status old new → HasFewLeft old.left
    → (FaultRose old.read_faults new.read_faults → ⊥) → (FaultRose old.output.write_faults new.output.write_faults → ⊥)
    → (FaultRose old.output.shelf_faults new.output.shelf_faults → ⊥) → EndsWell status
run_completes s status.Ok old new ended few reads puts shelvings = tt
run_completes s status.Refused old new ended few reads puts shelvings = tt
run_completes s status.Usage old new ended few reads puts shelvings = absurd ended
run_completes s status.ReadFault old new ended few reads puts shelvings = absurd (reads ended.1)
run_completes s status.WriteFault old new ended few reads puts shelvings = absurd (puts ended.1)
run_completes s status.OutOfMemory old new ended few reads puts shelvings = tt
run_completes s status.ShelfFault old new ended few reads puts shelvings = absurd (shelvings ended.1)
run_completes s status.NotDump old new ended few reads puts shelvings = absurd ended
run_completes s status.TooLong old new ended few reads puts shelvings = absurd (few_given old.left new.left ended.taken few ended.gave ended.too_many)

pub soak_completes : (budget start count : ℕ) (s : Status) (old new : SoakOutput)
    → EndedSoak budget start count s old new → (FaultRose old.write_faults new.write_faults → ⊥) → EndsWell s
soak_completes budget start count status.Ok old new ended puts = tt
soak_completes budget start count status.Refused old new ended puts = tt
soak_completes budget start count status.Usage old new ended puts = absurd ended
soak_completes budget start count status.ReadFault old new ended puts = absurd ended
soak_completes budget start count status.WriteFault old new ended puts = absurd (puts ended.2)
soak_completes budget start count status.OutOfMemory old new ended puts = tt
soak_completes budget start count status.ShelfFault old new ended puts = absurd ended
soak_completes budget start count status.NotDump old new ended puts = absurd ended
soak_completes budget start count status.TooLong old new ended puts = absurd ended
