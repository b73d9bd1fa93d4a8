use Rattle.world_laws.proofs.Promoting.{fork_immune, fork_objects, fork_rest, page_behind}
use Rattle.world_laws.proofs.parts.forks_promote.Goals as goal

pub returns-clause-immune : goal.returns-clause-immune
returns-clause-immune c = fork_immune

pub returns-clause-objects : goal.returns-clause-objects
returns-clause-objects c = fork_objects

pub returns-clause-rest : goal.returns-clause-rest
returns-clause-rest c = fork_rest

pub returns-clause-page : goal.returns-clause-page
returns-clause-page c = page_behind
