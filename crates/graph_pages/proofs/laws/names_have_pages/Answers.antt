use Rattle.graph_pages.proofs.Named.{names-differ, names-mapped}
use Rattle.graph_pages.proofs.laws.names_have_pages.Goals as goal

pub returns-clause-differ : goal.returns-clause-differ
returns-clause-differ c homes g a b formed house x y same = names-differ homes g formed house a b x y same

pub returns-clause-mapped : goal.returns-clause-mapped
returns-clause-mapped c m t homes g a formed house h is = names-mapped homes g formed house m t a h is
