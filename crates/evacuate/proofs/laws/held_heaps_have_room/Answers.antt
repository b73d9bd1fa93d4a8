use Rattle.evacuate.proofs.Can.{are-large, are-young, held-regions}
use Rattle.evacuate.proofs.laws.held_heaps_have_room.Goals as goal

pub returns-clause-regions : goal.returns-clause-regions
returns-clause-regions c = held-regions

pub returns-clause-young : goal.returns-clause-young
returns-clause-young c = are-young

pub returns-clause-large : goal.returns-clause-large
returns-clause-large c = are-large
