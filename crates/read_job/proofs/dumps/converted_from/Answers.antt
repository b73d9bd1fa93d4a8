use Rattle.std.proofs.Common.{◌≢◌, ℕ, None, Option, sym, subst}
use Rattle.read_job.specs.Ends.{TellsFault, line_of}
use Rattle.read_job.specs.declared.question.Question.TheVariants.{Converted}
use Rattle.read_job.proofs.FaultLines.{tells_wide_fault}
use Rattle.read_job.proofs.dumps.converted_from.Goals as goal

pub returns-in-Err-clause-fault : goal.returns-in-Err-clause-fault
returns-in-Err-clause-fault c =
    subst (λ (fault : Option (ℕ × ℕ)). fault ≢ None → TellsFault Converted c.args.text.items (line_of fault)) (sym c.wide_fault_number.ensures)
    (tells_wide_fault c.in-Err.error c.args.text.items c.in-Err.ensures.fault)
