use Rattle.hprof_read.proofs.LawLemmas.{no_fault}
use Rattle.hprof_read.proofs.laws.no_fault_in_dumps.Goals as goal

pub returns : goal.returns
returns c e time records f fr h = no_fault e time records f fr h
