use Rattle.world_laws.proofs.Aligned.{store_page}
use Rattle.world_laws.proofs.parts.stores_touch_their_own_page.Goals as goal

pub returns-clause-own : goal.returns-clause-own
returns-clause-own c = store_page
