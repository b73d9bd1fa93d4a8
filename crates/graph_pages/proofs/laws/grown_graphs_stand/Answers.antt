use Rattle.graph_pages.proofs.Added.{graph-added}
use Rattle.graph_pages.proofs.laws.grown_graphs_stand.Goals as goal

pub returns : goal.returns
returns c cs old new table next os o h apart slots same beside known changes stands = graph-added cs old new table next os o h apart slots same beside known changes stands
