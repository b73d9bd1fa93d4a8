use Rattle.std.proofs.Common.{sym, ◌∙◌}
use Rattle.cow_pages.proofs.SoundLemmas.{sound}
use Rattle.cow_pages.proofs.frames.Frames.leaf_of.Goals as goal

pub returns-in-Some-clause-value : goal.returns-in-Some-clause-value
returns-in-Some-clause-value c = rw (← c.self.view_is) (sym c.in-Some.is ∙ c.leaf.ensures)

pub returns-in-Some-clause-sound : goal.returns-in-Some-clause-sound
returns-in-Some-clause-sound c = rw (← c.self.view_is) (sound c.self.inside.store c.self.invariant)

pub returns-in-None-clause-value : goal.returns-in-None-clause-value
returns-in-None-clause-value c = rw (← c.self.view_is) (sym c.in-None.is ∙ c.leaf.ensures)

pub returns-in-None-clause-sound : goal.returns-in-None-clause-sound
returns-in-None-clause-sound c = rw (← c.self.view_is) (sound c.self.inside.store c.self.invariant)
