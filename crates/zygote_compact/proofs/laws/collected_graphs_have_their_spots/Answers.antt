use Rattle.zygote_compact.proofs.Spots.{collected-spots}
use Rattle.zygote_compact.proofs.laws.collected_graphs_have_their_spots.Goals as goal

pub returns : goal.returns
returns c = collected-spots
