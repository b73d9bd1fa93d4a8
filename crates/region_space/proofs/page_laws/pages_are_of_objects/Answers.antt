use Rattle.region_space.proofs.LieLemmas.{pages-grown}
use Rattle.region_space.proofs.page_laws.pages_are_of_objects.Goals as goal

pub returns : goal.returns
returns c = record { grown = λ old new at size p space is places. pages-grown old new at size p is places }
