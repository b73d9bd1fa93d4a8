use Rattle.cow_pages.proofs.OnlyLemmas.{only-refl}
use Rattle.cow_pages.proofs.laws.nothing_is_only_a_table.Goals as goal

pub returns : goal.returns
returns c = only-refl
