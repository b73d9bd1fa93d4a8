use Rattle.heap_world.proofs.SoundActs.{act_sound, child_sound, first_sound, fork_sound}
use Rattle.heap_world.proofs.sound.parts_are_sound.Goals as goal

pub returns-clause-first : goal.returns-clause-first
returns-clause-first c = first_sound

pub returns-clause-act : goal.returns-clause-act
returns-clause-act c = act_sound

pub returns-clause-child : goal.returns-clause-child
returns-clause-child c = child_sound

pub returns-clause-fork : goal.returns-clause-fork
returns-clause-fork c = fork_sound
