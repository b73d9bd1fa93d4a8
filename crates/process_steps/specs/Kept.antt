-- What each command keeps of a part.
use Rattle.heap_world.specs.Part.{Part}
use Rattle.heap_world.specs.Sound.{IsSound}
use Rattle.world_laws.specs.Outward.{NotesWithin, TouchesOutward}

-- the part is sound, the page of each slot that leads out is touched, and noted cards lie below the fills
pub record IsKept (p : Part) : Type 0 where
  pub part : IsSound p
  pub outward : TouchesOutward p
  pub within : NotesWithin p
