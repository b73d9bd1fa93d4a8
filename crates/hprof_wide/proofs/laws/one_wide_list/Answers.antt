use Rattle.hprof_wide.proofs.LawLemmas.{one_dump}
use Rattle.hprof_wide.proofs.laws.one_wide_list.Goals as goal

pub returns : goal.returns
returns c w other_w time other records others bytes f g = one_dump w other_w time other records others bytes f g
