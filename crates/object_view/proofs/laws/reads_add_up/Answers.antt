use Rattle.object_view.proofs.Rises.{rose-both, rose-more, rose-none}
use Rattle.object_view.proofs.laws.reads_add_up.Goals as goal

pub returns-clause-none : goal.returns-clause-none
returns-clause-none c = rose-none

pub returns-clause-both : goal.returns-clause-both
returns-clause-both c = rose-both

pub returns-clause-more : goal.returns-clause-more
returns-clause-more c = rose-more
