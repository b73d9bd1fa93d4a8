use Rattle.world_laws.proofs.Touching.{touches_first}
use Rattle.world_laws.proofs.pages.touched_pages_stood.Goals as goal

pub returns-clause-first : goal.returns-clause-first
returns-clause-first c p v formed = touches_first p formed v
