use Rattle.zygote_compact.proofs.Spots.{sealed-spots}
use Rattle.zygote_compact.proofs.laws.sealed_graphs_have_no_spots.Goals as goal

pub returns : goal.returns
returns c h m t g z sealed closed fill starts = let it = sealed-spots h m t g z sealed fill starts in record { closed = closed; fill = it.0; starts = it.1 }
