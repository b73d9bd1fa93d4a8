use Rattle.region_space.proofs.LieLemmas.{object-mapped, placed-beside, placed-lies}
use Rattle.region_space.proofs.page_laws.objects_lie_in_rows.Goals as goal

pub returns-clause-placed : goal.returns-clause-placed
returns-clause-placed c = λ old new at size space is places. placed-lies old new at size is places

pub returns-clause-beside : goal.returns-clause-beside
returns-clause-beside c = λ old new at size a n space is places object. placed-beside old new at size a n space is places object

pub returns-clause-mapped : goal.returns-clause-mapped
returns-clause-mapped c = λ m t s a n i space has object within. object-mapped m t s a n i space has object within
