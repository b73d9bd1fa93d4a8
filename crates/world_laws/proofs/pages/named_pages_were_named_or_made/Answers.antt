use Rattle.world_laws.proofs.Changed.{fork_keeps_names, keeps_names}
use Rattle.world_laws.proofs.pages.named_pages_were_named_or_made.Goals as goal

pub returns-clause-act : goal.returns-clause-act
returns-clause-act c = keeps_names

pub returns-clause-fork : goal.returns-clause-fork
returns-clause-fork c = fork_keeps_names
