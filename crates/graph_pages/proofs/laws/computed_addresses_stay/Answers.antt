use Rattle.graph_pages.proofs.Computed.{table-stored}
use Rattle.graph_pages.proofs.Grown.{grown-same}
use Rattle.graph_pages.proofs.laws.computed_addresses_stay.Goals as goal

pub returns-clause-stored : goal.returns-clause-stored
returns-clause-stored c homes g n k s = table-stored homes g.classes k n s 0 0 g.objects

pub returns-clause-grown : goal.returns-clause-grown
returns-clause-grown c = grown-same
