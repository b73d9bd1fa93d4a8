use Rattle.cow_pages.proofs.LawLemmas.{paged}
use Rattle.cow_pages.proofs.laws.views_are_paged.Goals as goal

pub returns : goal.returns
returns c = paged
