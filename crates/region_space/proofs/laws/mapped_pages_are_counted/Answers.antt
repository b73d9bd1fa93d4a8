use Rattle.region_space.proofs.CountLemmas.{space-counted}
use Rattle.region_space.proofs.laws.mapped_pages_are_counted.Goals as goal

pub returns : goal.returns
returns c = λ m t s sound space has. space-counted m t s sound space has
