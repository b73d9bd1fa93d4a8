-- The lines of faults.
use Rattle.std.proofs.Common.{◌≡◌, inl, ℕ, List, None, refl, ap}
use Rattle.hprof_read.specs.declared.read_error.ReadError.{ReadError}
use Rattle.hprof_read.specs.declared.read_error.ReadError.TheVariants as narrow
use Rattle.hprof_read.specs.Fault.{IsFirstFault}
use Rattle.hprof_wide.specs.declared.wide_error.WideError.{WideError}
use Rattle.hprof_wide.specs.declared.wide_error.WideError.TheVariants as wide
use Rattle.hprof_wide.specs.Fault.{IsFirstWideFault}
use Rattle.read_job.specs.declared.question.Question.TheVariants.{Converted}
use Rattle.read_job.specs.Ends.{TellsDumpFault, TellsFault, fault_line, fault_number, wide_fault_line, wide_fault_number}

-- a fault with a number is told by its line
pub tells_dump_fault : (e : ReadError) (text : List ℕ) → ((e ≡ narrow.OutOfMemory → ⊥) → IsFirstFault e text) → (fault_number e ≡ None → ⊥) → TellsDumpFault text (fault_line e)
tells_dump_fault e text first numbered = (e, (first (λ is. numbered (ap fault_number is)), refl))

-- so is a fault of a wide dump
pub tells_wide_fault : (e : WideError) (text : List ℕ)
    → ((e ≡ wide.OutOfMemory → ⊥) → IsFirstWideFault e text) → (wide_fault_number e ≡ None → ⊥) → TellsFault Converted text (wide_fault_line e)
tells_wide_fault e text first numbered = inl (e, (first (λ is. numbered (ap wide_fault_number is)), refl))
