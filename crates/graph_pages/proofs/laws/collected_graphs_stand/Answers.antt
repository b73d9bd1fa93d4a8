use Rattle.graph_pages.proofs.Collects.{graph-collected}
use Rattle.graph_pages.proofs.laws.collected_graphs_stand.Goals as goal

pub returns : goal.returns
returns c g table next go v raws formed going h turned = graph-collected g formed table next go going v raws h turned
