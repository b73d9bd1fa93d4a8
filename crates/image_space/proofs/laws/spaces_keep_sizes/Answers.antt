use Rattle.image_space.proofs.SpotLemmas.{sizes-more}
use Rattle.image_space.proofs.laws.spaces_keep_sizes.Goals as goal

pub returns-clause-more : goal.returns-clause-more
returns-clause-more c = sizes-more
