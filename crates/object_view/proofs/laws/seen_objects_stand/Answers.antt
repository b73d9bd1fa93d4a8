use Rattle.object_view.proofs.Lookups.{SameView-reads}
use Rattle.object_view.proofs.Standing.{Stands-seen}
use Rattle.object_view.proofs.laws.seen_objects_stand.Goals as goal

pub returns-clause-object : goal.returns-clause-object
returns-clause-object c = Stands-seen

pub returns-clause-reads : goal.returns-clause-reads
returns-clause-reads c = SameView-reads
