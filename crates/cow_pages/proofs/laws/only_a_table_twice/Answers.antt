use Rattle.cow_pages.proofs.OnlyLemmas.{only-trans}
use Rattle.cow_pages.proofs.laws.only_a_table_twice.Goals as goal

pub returns : goal.returns
returns c = only-trans
