use Rattle.cow_pages.proofs.SoundLemmas.{sound}
use Rattle.cow_pages.proofs.ViewLemmas.{OthersSeen-page, UnmapsPage-none}
use Rattle.cow_pages.proofs.frames.Frames.release.Goals as goal

pub release-requires : goal.release-requires
release-requires c = record { store = c.self.invariant; mapped = rw (← c.self.view_is) at c.requires.mapped; alone = rw (← c.self.view_is) at c.requires.alone }

pub invariant_of-self : goal.invariant_of-self
invariant_of-self c = c.release.ensures.store

pub returns-clause-rest : goal.returns-clause-rest
returns-clause-rest c = rw (← c.self.view_is) c.release.ensures.rest

pub returns-clause-view : goal.returns-clause-view
returns-clause-view c = rw (← c.self.view_is) (UnmapsPage-none _ _ _ _ c.release.ensures.unmapped c.release.ensures.rest)

pub returns-clause-others_seen : goal.returns-clause-others_seen
returns-clause-others_seen c = rw (← c.self.view_is) (OthersSeen-page _ _ _ _ c.release.ensures.rest)

pub returns-clause-room : goal.returns-clause-room
returns-clause-room c = rw (← c.self.view_is) c.release.ensures.room

pub returns-clause-sound : goal.returns-clause-sound
returns-clause-sound c = sound _ c.release.ensures.store

pub returns-clause-freed : goal.returns-clause-freed
returns-clause-freed c = rw (← c.self.view_is) c.release.ensures.freed

pub returns-clause-leaf : goal.returns-clause-leaf
returns-clause-leaf c = rw (← c.self.view_is) c.release.ensures.leaf
