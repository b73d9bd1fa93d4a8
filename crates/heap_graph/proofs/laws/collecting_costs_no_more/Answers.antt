use Rattle.heap_graph.proofs.Sizes.{cost_no_more}
use Rattle.heap_graph.proofs.laws.collecting_costs_no_more.Goals as goal

pub returns : goal.returns
returns c = cost_no_more
