use Rattle.std.proofs.Common.{◌≢◌, ℕ, None, Option, sym, subst}
use Rattle.read_job.specs.Ends.{TellsDumpFault, line_of}
use Rattle.read_job.proofs.FaultLines.{tells_dump_fault}
use Rattle.read_job.proofs.dumps.dump_in.Goals as goal

pub returns-in-Err-clause-fault : goal.returns-in-Err-clause-fault
returns-in-Err-clause-fault c =
    subst (λ (fault : Option (ℕ × ℕ)). fault ≢ None → TellsDumpFault c.args.text.items (line_of fault)) (sym c.fault_number.ensures)
    (tells_dump_fault c.in-Err.error c.args.text.items c.in-Err.ensures.fault)
