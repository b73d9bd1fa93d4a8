use Rattle.dump_shows.proofs.Same.{one-graph}
use Rattle.dump_shows.proofs.laws.one_graph_is_shown.Goals as goal

pub returns : goal.returns
returns c = one-graph
