use Rattle.zygote_space.proofs.SpotLemmas.{gained}
use Rattle.zygote_space.proofs.laws.segments_are_gained.Goals as goal

pub returns : goal.returns
returns c = gained
