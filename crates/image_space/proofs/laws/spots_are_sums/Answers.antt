use Rattle.image_space.proofs.SpotLemmas.{spots-summed}
use Rattle.image_space.proofs.laws.spots_are_sums.Goals as goal

pub returns : goal.returns
returns c = spots-summed
