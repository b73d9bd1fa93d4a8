use Rattle.world_laws.proofs.Fresh.{fork_makes_new, makes_new}
use Rattle.world_laws.proofs.pages.made_pages_are_new.Goals as goal

pub returns-clause-act : goal.returns-clause-act
returns-clause-act c = makes_new

pub returns-clause-fork : goal.returns-clause-fork
returns-clause-fork c = fork_makes_new
