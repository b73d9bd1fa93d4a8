use Rattle.std.proofs.Common.{ap}
use Rattle.hprof_records.specs.Records.{dump_bytes}
use Rattle.hprof_list.proofs.Putting.{puts_ok, said}
use Rattle.hprof_bytes.proofs.records.write_bytes.Goals as goal

pub returns-clause-ok : goal.returns-clause-ok
returns-clause-ok g c = puts_ok _ _ _ _ _ _ (said _ _ _ _ _ _ _ c.put_dump.ensures (ap (dump_bytes c.args.dump.now.time) c.as_slice.ensures))
