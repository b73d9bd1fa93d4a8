use Rattle.raw_objects.proofs.Kept.{keeps-none, keeps-then, keeps-wider}
use Rattle.raw_objects.proofs.laws.kept_pages_compose.Goals as goal

pub returns-clause-none : goal.returns-clause-none
returns-clause-none c = keeps-none

pub returns-clause-both : goal.returns-clause-both
returns-clause-both c = keeps-then

pub returns-clause-wider : goal.returns-clause-wider
returns-clause-wider c = keeps-wider
