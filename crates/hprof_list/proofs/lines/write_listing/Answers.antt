use Rattle.std.proofs.Common.{ap}
use Rattle.hprof_list.specs.Listing.{listing}
use Rattle.hprof_list.proofs.Putting.{puts_ok, said}
use Rattle.hprof_list.proofs.lines.write_listing.Goals as goal

pub returns-clause-ok : goal.returns-clause-ok
returns-clause-ok g c = puts_ok _ _ _ _ _ _ (said _ _ _ _ _ _ _ c.put_listing.ensures (ap (listing c.args.dump.now.time) c.as_slice.ensures))
