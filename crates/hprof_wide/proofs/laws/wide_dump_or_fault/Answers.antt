use Rattle.hprof_wide.proofs.EveryText.{dump_or_fault}
use Rattle.hprof_wide.proofs.laws.wide_dump_or_fault.Goals as goal

pub returns : goal.returns
returns c text fits = dump_or_fault text fits
