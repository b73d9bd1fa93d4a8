use Rattle.graph_pages.proofs.Stored.{graph-put}
use Rattle.graph_pages.proofs.laws.stored_graphs_stand.Goals as goal

pub returns : goal.returns
returns c cs old new table os o kind offset s z h apart there place value puts = graph-put cs table os apart o there s z value old new kind offset h place puts
