use Rattle.cow_pages.proofs.LawLemmas.{counts}
use Rattle.cow_pages.proofs.laws.counts_are_of_pages.Goals as goal

pub returns : goal.returns
returns c = counts
