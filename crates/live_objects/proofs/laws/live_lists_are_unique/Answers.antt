use Rattle.live_objects.specs.Reach.{Reached}
use Rattle.live_objects.proofs.YoungLemmas.{one-list}
use Rattle.live_objects.proofs.laws.live_lists_are_unique.Goals as goal

pub returns : goal.returns
returns c = λ s cs rows raws starts one other. one-list s (Reached cs rows raws starts) one other
