use Rattle.heap_world.proofs.Referents.{slot-weak}
use Rattle.heap_world.proofs.Standing.{slot-lies}
use Rattle.heap_world.proofs.formed.slots_lie_in_objects.Goals as goal

pub returns-clause-header : goal.returns-clause-header
returns-clause-header c cs shape at has = (slot-lies cs shape at has).0

pub returns-clause-within : goal.returns-clause-within
returns-clause-within c cs shape at has = (slot-lies cs shape at has).1

pub returns-clause-weak : goal.returns-clause-weak
returns-clause-weak c = slot-weak
