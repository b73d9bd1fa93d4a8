use Rattle.hprof_read.proofs.EveryText.{dump_or_fault}
use Rattle.hprof_read.proofs.laws.dump_or_fault.Goals as goal

pub returns : goal.returns
returns c text fits = dump_or_fault text fits
