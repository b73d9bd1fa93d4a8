use Rattle.raw_objects.proofs.Kept.{keeps-pages, keeps-reads}
use Rattle.raw_objects.proofs.laws.changed_pages_are_kept.Goals as goal

pub returns-clause-pages : goal.returns-clause-pages
returns-clause-pages c = keeps-pages

pub returns-clause-reads : goal.returns-clause-reads
returns-clause-reads c = keeps-reads
