use Rattle.cow_pages.proofs.LawLemmas.{shares_leaves}
use Rattle.cow_pages.proofs.laws.leaves_are_shared.Goals as goal

pub returns : goal.returns
returns c = shares_leaves
