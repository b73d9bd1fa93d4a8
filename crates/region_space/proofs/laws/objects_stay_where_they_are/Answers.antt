use Rattle.region_space.proofs.PackLemmas.{object-stays}
use Rattle.region_space.proofs.laws.objects_stay_where_they_are.Goals as goal

pub returns : goal.returns
returns c = λ rows region size p filled below. object-stays rows region size p filled below
