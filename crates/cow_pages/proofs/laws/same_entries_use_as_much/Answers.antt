use Rattle.cow_pages.proofs.UsedLemmas.{used-same}
use Rattle.cow_pages.proofs.laws.same_entries_use_as_much.Goals as goal

pub returns : goal.returns
returns c = used-same
