use Rattle.graph_pages.proofs.Graphs.{graph-among, graph-raws, graph-same, raws-graph}
use Rattle.graph_pages.proofs.laws.graphs_are_raw_objects.Goals as goal

pub returns-clause-raw : goal.returns-clause-raw
returns-clause-raw c = graph-raws

pub returns-clause-among : goal.returns-clause-among
returns-clause-among c = graph-among

pub returns-clause-back : goal.returns-clause-back
returns-clause-back c = raws-graph

pub returns-clause-same : goal.returns-clause-same
returns-clause-same c = graph-same
