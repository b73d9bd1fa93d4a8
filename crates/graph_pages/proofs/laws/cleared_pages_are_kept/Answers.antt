use Rattle.graph_pages.proofs.Cleared.{cleared-kept}
use Rattle.graph_pages.proofs.laws.cleared_pages_are_kept.Goals as goal

pub returns : goal.returns
returns c = cleared-kept
