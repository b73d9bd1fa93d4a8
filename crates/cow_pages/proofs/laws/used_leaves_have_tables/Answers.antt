use Rattle.cow_pages.proofs.UsedLemmas.{used_leaves-length}
use Rattle.cow_pages.proofs.laws.used_leaves_have_tables.Goals as goal

pub returns : goal.returns
returns c = λ m ls sound. used_leaves-length m ls
