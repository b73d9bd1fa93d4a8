use Rattle.graph_pages.proofs.Nulled.{cleared-held}
use Rattle.graph_pages.proofs.laws.cleared_objects_are_held.Goals as goal

pub returns : goal.returns
returns c = cleared-held
