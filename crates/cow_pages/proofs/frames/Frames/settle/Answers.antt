use Rattle.cow_pages.proofs.SoundLemmas.{sound}
use Rattle.cow_pages.proofs.ViewLemmas.{AllSeen-settled}
use Rattle.cow_pages.proofs.frames.Frames.settle.Goals as goal

pub settle-requires : goal.settle-requires
settle-requires c = record { store = c.self.invariant; live = rw (← c.self.view_is) at c.requires }

pub invariant_of-self : goal.invariant_of-self
invariant_of-self c = c.settle.ensures.store

pub returns-clause-pages : goal.returns-clause-pages
returns-clause-pages c = rw (← c.self.view_is) c.settle.ensures.pages

pub returns-clause-rest : goal.returns-clause-rest
returns-clause-rest c = rw (← c.self.view_is) c.settle.ensures.rest

pub returns-clause-all_seen : goal.returns-clause-all_seen
returns-clause-all_seen c = rw (← c.self.view_is) (AllSeen-settled _ _ _ c.settle.ensures.rest c.settle.ensures.pages)

pub returns-clause-room : goal.returns-clause-room
returns-clause-room c = rw (← c.self.view_is) c.settle.ensures.room

pub returns-clause-sound : goal.returns-clause-sound
returns-clause-sound c = sound _ c.settle.ensures.store

pub returns-clause-leaves : goal.returns-clause-leaves
returns-clause-leaves c = rw (← c.self.view_is) c.settle.ensures.leaves

pub returns-clause-used : goal.returns-clause-used
returns-clause-used c = rw (← c.self.view_is) c.settle.ensures.used
