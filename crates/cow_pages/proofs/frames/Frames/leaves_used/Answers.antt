use Rattle.std.proofs.Common.{arith}
use Rattle.cow_pages.proofs.SoundLemmas.{all_leaves, sound}
use Rattle.cow_pages.proofs.frames.Frames.leaves_used.Goals as goal

pub returns-clause-value : goal.returns-clause-value
returns-clause-value c =
    let s = c.self.inside.store in
    rw (← c.self.view_is) (omega (arith, all_leaves s c.self.invariant.kept c.self.invariant.room, c.spare.ensures.value, c.len.ensures))

pub returns-clause-sound : goal.returns-clause-sound
returns-clause-sound c = rw (← c.self.view_is) (sound c.self.inside.store c.self.invariant)
