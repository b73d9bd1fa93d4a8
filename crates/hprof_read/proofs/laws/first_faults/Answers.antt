use Rattle.hprof_read.proofs.LawLemmas.{one_first_fault}
use Rattle.hprof_read.proofs.laws.first_faults.Goals as goal

pub returns : goal.returns
returns c e f text g h = one_first_fault e f text g h
