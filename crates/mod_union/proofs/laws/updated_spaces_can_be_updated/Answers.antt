use Rattle.mod_union.proofs.Updates.{can-again}
use Rattle.mod_union.proofs.laws.updated_spaces_can_be_updated.Goals as goal

pub returns : goal.returns
returns c = can-again
