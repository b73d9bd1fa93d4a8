use Rattle.world_laws.proofs.Promoting.{none_own, none_wait}
use Rattle.world_laws.proofs.pages.promoted_pages_are_shared.Goals as goal

pub returns-clause-own : goal.returns-clause-own
returns-clause-own c = none_own

pub returns-clause-waiting : goal.returns-clause-waiting
returns-clause-waiting c = none_wait
