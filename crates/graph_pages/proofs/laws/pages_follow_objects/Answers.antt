use Rattle.std.proofs.Common.{◌∙◌, sym}
use Rattle.graph_pages.proofs.Paged.{bytes-stored, pages-grown}
use Rattle.graph_pages.proofs.laws.pages_follow_objects.Goals as goal

pub returns-clause-stored : goal.returns-clause-stored
returns-clause-stored c m t w cs table os n s maps p inside = maps p inside ∙ sym (bytes-stored cs table p n s os)

pub returns-clause-grown : goal.returns-clause-grown
returns-clause-grown c = pages-grown
