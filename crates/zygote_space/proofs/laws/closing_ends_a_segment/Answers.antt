use Rattle.zygote_space.proofs.SpotLemmas.{closed}
use Rattle.zygote_space.proofs.laws.closing_ends_a_segment.Goals as goal

pub returns : goal.returns
returns c = closed
