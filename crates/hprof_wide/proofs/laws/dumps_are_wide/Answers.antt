use Rattle.hprof_wide.proofs.NarrowDumps.{dump_is_wide}
use Rattle.hprof_wide.proofs.laws.dumps_are_wide.Goals as goal

pub returns : goal.returns
returns c time records small formed = dump_is_wide time records small formed
