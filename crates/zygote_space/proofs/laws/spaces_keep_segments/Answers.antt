use Rattle.zygote_space.proofs.SpotLemmas.{opened, placed}
use Rattle.zygote_space.proofs.laws.spaces_keep_segments.Goals as goal

pub returns-clause-opened : goal.returns-clause-opened
returns-clause-opened c = opened

pub returns-clause-placed : goal.returns-clause-placed
returns-clause-placed c = placed
