use Rattle.hprof_wide.proofs.FirstFaults.{one_first_fault}
use Rattle.hprof_wide.proofs.laws.first_wide_faults.Goals as goal

pub returns : goal.returns
returns c e f text g h = one_first_fault e f text g h
