use Rattle.heap_graph.proofs.Stores.{cleared-value, stored-value, value-among}
use Rattle.heap_graph.proofs.laws.places_hold_what_was_stored.Goals as goal

pub returns-clause-stored : goal.returns-clause-stored
returns-clause-stored c = stored-value

pub returns-clause-cleared : goal.returns-clause-cleared
returns-clause-cleared c = cleared-value

pub returns-clause-target : goal.returns-clause-target
returns-clause-target c = value-among
