use Rattle.world_laws.proofs.Aligned.{outward_card, store_card}
use Rattle.world_laws.proofs.parts.slots_note_their_own_card.Goals as goal

pub returns-clause-store : goal.returns-clause-store
returns-clause-store c = store_card

pub returns-clause-outward : goal.returns-clause-outward
returns-clause-outward c = outward_card
