use Rattle.cow_pages.proofs.UsedLemmas.{used-length}
use Rattle.cow_pages.proofs.laws.used_frames_have_entries.Goals as goal

pub returns : goal.returns
returns c = used-length
