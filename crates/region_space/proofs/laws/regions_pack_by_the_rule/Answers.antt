use Rattle.region_space.proofs.PackLemmas.{pack-more, pack-opens, pack-spot}
use Rattle.region_space.proofs.laws.regions_pack_by_the_rule.Goals as goal

pub returns-clause-more : goal.returns-clause-more
returns-clause-more c = λ rows sizes region size pack is. pack-more rows sizes region size pack is

pub returns-clause-spot : goal.returns-clause-spot
returns-clause-spot c = λ rows sizes region size pack is. pack-spot rows sizes region size pack is

pub returns-clause-opens : goal.returns-clause-opens
returns-clause-opens c = λ rows sizes size pack is. pack-opens rows sizes size pack is
