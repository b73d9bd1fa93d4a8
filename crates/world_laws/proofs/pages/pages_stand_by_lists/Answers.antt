use Rattle.world_laws.proofs.StandingLists.{named_both, standing_lists, standing_once, waiting_lists}
use Rattle.world_laws.proofs.pages.pages_stand_by_lists.Goals as goal

pub returns-clause-standing : goal.returns-clause-standing
returns-clause-standing c = standing_lists

pub returns-clause-waiting : goal.returns-clause-waiting
returns-clause-waiting c = waiting_lists

pub returns-clause-both : goal.returns-clause-both
returns-clause-both c = named_both

pub returns-clause-once : goal.returns-clause-once
returns-clause-once c = standing_once
