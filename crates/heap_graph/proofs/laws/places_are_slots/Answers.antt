use Rattle.heap_graph.proofs.Places.{place-slot, slot-place, stored-slot}
use Rattle.heap_graph.proofs.laws.places_are_slots.Goals as goal

pub returns-clause-slot : goal.returns-clause-slot
returns-clause-slot c = slot-place

pub returns-clause-place : goal.returns-clause-place
returns-clause-place c = place-slot

pub returns-clause-stored : goal.returns-clause-stored
returns-clause-stored c g o s formed there here = slot-place g.classes o.shape s.at (stored-slot g o s formed there here)
