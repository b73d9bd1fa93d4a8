use Rattle.evacuate.proofs.Reach.{reached-same}
use Rattle.evacuate.proofs.laws.reached_objects_are_reached.Goals as goal

pub returns : goal.returns
returns c h m t g o keeps there = reached-same h m t g keeps o there
