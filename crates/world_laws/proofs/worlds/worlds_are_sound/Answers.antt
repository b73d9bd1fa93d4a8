use Rattle.world_laws.proofs.SoundWorlds.{first_world_sound, step_sound}
use Rattle.world_laws.proofs.worlds.worlds_are_sound.Goals as goal

pub returns-clause-first : goal.returns-clause-first
returns-clause-first c = first_world_sound

pub returns-clause-step : goal.returns-clause-step
returns-clause-step c w line command few sound = step_sound w line command few sound
