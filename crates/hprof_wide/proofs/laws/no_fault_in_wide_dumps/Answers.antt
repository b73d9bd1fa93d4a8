use Rattle.hprof_wide.proofs.LawLemmas.{no_fault}
use Rattle.hprof_wide.proofs.laws.no_fault_in_wide_dumps.Goals as goal

pub returns : goal.returns
returns c e w time records bytes d f = no_fault e w time records bytes d f
