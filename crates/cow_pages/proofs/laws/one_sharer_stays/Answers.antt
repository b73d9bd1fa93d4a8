use Rattle.cow_pages.proofs.LawLemmas.{one_stays}
use Rattle.cow_pages.proofs.laws.one_sharer_stays.Goals as goal

pub returns : goal.returns
returns c = one_stays
