use Rattle.hprof_wide.proofs.LawLemmas.{longest_dump}
use Rattle.hprof_wide.proofs.laws.longest_wide_fronts.Goals as goal

pub returns : goal.returns
returns c w other_w time other records others bytes longer rest more f g none e = longest_dump w other_w time other records others bytes longer rest more f g none e
