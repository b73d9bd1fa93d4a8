use Rattle.hprof_read.proofs.LawLemmas.{one_dump}
use Rattle.hprof_read.proofs.laws.one_list.Goals as goal

pub returns : goal.returns
returns c time other records others f g fr gs e = one_dump time other records others f g fr gs e
